-- The readers of constants and types read what the grammar says. Assumes nothing.
use Rattle.std.proofs.Common.{◌≡◌, ℕ, zero, suc, true, List, [], ◌∷◌, Some, None, Option, refl, arith}
use Rattle.std.proofs.lemmas.Bool.Decides.{nat_tests}
use Rattle.symbol.specs.Symbols.{Sym, PlacedSym}
use Rattle.symbol.specs.Symbols as symbol
use Rattle.symbol.specs.declared.mark.Mark.TheVariants as m
use Rattle.symbol.specs.declared.word.Word.TheVariants as w
use Rattle.cursor.specs.Kinds.{sym_is_mark, sym_is_word}
use Rattle.cursor.specs.Reading.{head, tail, Lex, inner}
use Rattle.expression_tree.specs.declared.Sign.{Sign}
use Rattle.expression_parser.specs.Classes.{sign, Start, start, a_number, a_character, a_name, an_opening, a_not, other}
use Rattle.type_tree.specs.Trees.{Typ, secs}
use Rattle.type_parser.specs.Readers.{constant_at, signed_of, constant_of, Kind, of_name, of_enumeration, of_array, of_record, of_other, kind, enumeration_of, array_at, section_of, record_at, type_at, type_of, type_expr_of}
use Rattle.grammar.specs.Phrases.{Phrase, ◌then◌, mark, idents, repeated, separated}
use Rattle.grammar.specs.Types.{ConR, TypR, SecsR, MoreR}
use Rattle.grammar.proofs.Holding.{Holds, done, faulted, bind, starts, starts_mark, starts_word, mark_holds, word_holds, number_holds, idents_holds, list_holds}
use Rattle.grammar.proofs.Classes.{starts_sign, starts_number, starts_character, starts_name}

pub constant_sound : (ss : List PlacedSym) → Holds (λ t rest. ConR t ss rest) (constant_of ss)
unfolding constant_of
constant_sound ss = go (sign (head ss).symbol) refl
  where
    plain : (x : Start) → start (head ss).symbol ≡ x → Holds (λ t rest. ConR t ss rest) (constant_at x ss)
    plain (a_number b) e = done (ss, refl, starts_number b ss e)
    plain (a_character b) e = done (starts_character b ss e)
    plain (a_name b) e = done (starts_name b ss e)
    plain an_opening e = faulted
    plain a_not e = faulted
    plain other e = faulted

    go : (x : Option Sign) → sign (head ss).symbol ≡ x → Holds (λ t rest. ConR t ss rest) (signed_of x ss)
    go None e = plain (start (head ss).symbol) refl
    go (Some g) e = bind (number_holds (tail ss)) (λ n rest h. done (tail ss, starts_sign g ss e, h))

-- ---- what a type begins with

name_is : (s : Sym) (b : List ℕ) → kind s ≡ of_name b → s ≡ symbol.name b
name_is s b e = grind (arith, nat_tests)

enumeration_is : (s : Sym) → kind s ≡ of_enumeration → sym_is_mark m.LeftParen s ≡ true
enumeration_is s e = grind (arith, nat_tests)

array_is : (s : Sym) → kind s ≡ of_array → sym_is_word w.Array s ≡ true
array_is s e = grind (arith, nat_tests)

record_is : (s : Sym) → kind s ≡ of_record → sym_is_word w.Record s ≡ true
record_is s e = grind (arith, nat_tests)

-- ---- types

abbrev pub Keeps : ℕ → Type 0
Keeps d = (ss : List PlacedSym) → Holds (λ t rest. TypR t d ss rest) (type_expr_of d ss)

abbrev pub KeepsIn : ℕ → Type 0
KeepsIn zero = Unit {0}
KeepsIn (suc d) = Keeps d

enumeration_sound : (d : ℕ) (ss : List PlacedSym) → sym_is_mark m.LeftParen (head ss).symbol ≡ true → Holds (λ t rest. TypR t d ss rest) (enumeration_of (inner type_expr_of d) ss)
unfolding enumeration_of inner
enumeration_sound zero ss e = faulted
enumeration_sound (suc d) ss e =
    bind (idents_holds (tail ss)) (λ ns left h. bind (mark_holds m.RightParen left) (λ _ rest k. done (tail ss, starts_mark m.LeftParen ss e, (left, h, k))))

array_sound : (d : ℕ) → KeepsIn d → (ss : List PlacedSym) → sym_is_word w.Array (head ss).symbol ≡ true → Holds (λ t rest. TypR t d ss rest) (array_at (inner type_expr_of d) ss)
unfolding array_at inner
array_sound zero k ss e = faulted
array_sound (suc d) k ss e =
    bind (constant_sound (tail ss))
    (λ a r1 h1. bind (mark_holds m.Colon r1)
    (λ _ r2 h2. bind (constant_sound r2)
    (λ b r3 h3. bind (word_holds w.Of r3)
    (λ _ r4 h4. bind (k r4)
    (λ t rest h5. done (tail ss, starts_word w.Array ss e, (r1, h1, (r2, h2, (r3, h3, (r4, h4, h5))))))))))

-- idents ":" type
SectionR : ℕ → List Lex × Typ → Phrase
SectionR d x = idents x.0 then mark m.Colon then TypR x.1 d

section_sound : (d : ℕ) → Keeps d → (ss : List PlacedSym) → Holds (λ x rest. SectionR d x ss rest) (section_of (type_expr_of d) ss)
unfolding section_of SectionR
section_sound d k ss = bind (idents_holds ss) (λ ns r1 h1. bind (mark_holds m.Colon r1) (λ _ r2 h2. bind (k r2) (λ t rest h3. done (r1, h1, (r2, h2, h3)))))

more_of : (d : ℕ) (xs : List (List Lex × Typ)) (ss rest : List PlacedSym) → repeated (λ x. mark m.Semicolon then SectionR d x) xs ss rest → MoreR (secs xs) d ss rest
unfolding SectionR
more_of d [] ss rest h = h
more_of d (x ∷ xs) ss rest h = (h.1.0, h.1.1, (h.1.2.0, h.1.2.1, (h.1.2.2.0, h.1.2.2.1, (h.0, h.1.2.2.2, more_of d xs h.0 rest h.2))))

secs_of_lem : (d : ℕ) (xs : List (List Lex × Typ)) (ss rest : List PlacedSym) → separated m.Semicolon (SectionR d) xs ss rest → SecsR (secs xs) d ss rest
unfolding SectionR
secs_of_lem d [] ss rest h = h
secs_of_lem d (x ∷ xs) ss rest h = (h.1.0, h.1.1, (h.1.2.0, h.1.2.1, (h.0, h.1.2.2, more_of d xs h.0 rest h.2)))

record_sound : (d : ℕ) → KeepsIn d → (ss : List PlacedSym) → sym_is_word w.Record (head ss).symbol ≡ true → Holds (λ t rest. TypR t d ss rest) (record_at (inner type_expr_of d) ss)
unfolding record_at inner
record_sound zero k ss e = faulted
record_sound (suc d) k ss e =
    bind (list_holds m.Semicolon (section_of (type_expr_of d)) (SectionR d) (section_sound d k) (tail ss))
    (λ xs left h. bind (word_holds w.End left) (λ _ rest j. done (tail ss, starts_word w.Record ss e, (left, secs_of_lem d xs (tail ss) left h, j))))

type_step : (d : ℕ) → KeepsIn d → (ss : List PlacedSym) → Holds (λ t rest. TypR t d ss rest) (type_of (inner type_expr_of d) ss)
unfolding type_of
type_step d k ss = go (kind (head ss).symbol) refl
  where
    go : (x : Kind) → kind (head ss).symbol ≡ x → Holds (λ t rest. TypR t d ss rest) (type_at (inner type_expr_of d) x ss)
    go (of_name b) e = done (starts ss (symbol.name b) (name_is (head ss).symbol b e) (λ z. grind arith))
    go of_enumeration e = enumeration_sound d ss (enumeration_is (head ss).symbol e)
    go of_array e = array_sound d k ss (array_is (head ss).symbol e)
    go of_record e = record_sound d k ss (record_is (head ss).symbol e)
    go of_other e = faulted

pub type_sound : (d : ℕ) → Keeps d
unfolding type_expr_of inner
type_sound zero ss = type_step zero tt ss
type_sound (suc d) ss = type_step (suc d) (λ l. type_sound d l) ss
