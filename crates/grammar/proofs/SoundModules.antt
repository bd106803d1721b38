-- The readers of declarations, procedures and modules read what the grammar says. Assumes nothing.
use Rattle.std.proofs.Common.{◌≡◌, ℕ, zero, suc, Bool, true, false, List, [], ◌∷◌, Some, None, Option, refl, ap, ◌∙◌, arith}
use Rattle.std.proofs.lemmas.Bool.Decides.{nat_tests}
use Rattle.symbol.specs.Symbols.{Sym, PlacedSym}
use Rattle.symbol.specs.Symbols as symbol
use Rattle.symbol.specs.declared.mark.Mark.TheVariants as m
use Rattle.symbol.specs.declared.word.Word.{Word}
use Rattle.symbol.specs.declared.word.Word.TheVariants as w
use Rattle.symbol.specs.Words.{same_name}
use Rattle.cursor.specs.Kinds.{sym_is_mark, sym_is_word}
use Rattle.cursor.specs.Reading.{head, tail, Lex, ident_of, inner, separator, behind, expect_end}
use Rattle.syntax.specs.StatementTrees.{stmts}
use Rattle.syntax.specs.declared.Marking.{Marking}
use Rattle.syntax.specs.declared.Marking.TheVariants as marked
use Rattle.syntax.specs.ProgramTrees.{Variables, Section, Head, decls}
use Rattle.syntax.specs.ProgramTrees as tree
use Rattle.syntax.specs.declared.PartKind.{PartKind}
use Rattle.syntax.specs.declared.PartKind.TheVariants as part
use Rattle.syntax.specs.declared.DeclarationKind.{DeclarationKind}
use Rattle.syntax.specs.declared.DeclarationKind.TheVariants as declaration
use Rattle.syntax.specs.Declarations.{naming, constant_declaration_of, constants_of, type_declaration_of, types_of, register_of, variables_after, variable_declaration_of, variable_list_of, part_kind, part_reader, parts_of}
use Rattle.syntax.specs.Procedures.{marking, unmarked, section_from, formals_section_of, formals_of, result_of, body_of, closes, closing_of, procedure_of}
use Rattle.syntax.specs.Modules.{opening, declaration_kind, names_of, module_word_of, heading_of, declaration_of, declarations_of, module_at, module_of, module_for, level}
use Rattle.syntax.specs.Modules as reader
use Rattle.syntax.specs.Program.{deepest, program_of}
use Rattle.grammar.specs.Phrases.{Phrase, ◌at◌, ◌then◌, mark, word, ident, repeats, repeated, separated, idents}
use Rattle.grammar.specs.Modules.{ConstantR, TypeR, VariablesR, PartR, MarkingR, SectionR, FormalsR, ResultR, BodyR, ProcR, OpeningR, NamesR, HeadR, opening_of, name_of, ModulR, DeclR, DeclsR, Sentence}
use Rattle.grammar.proofs.Holding.{Holds, done, faulted, bind, weaken, choose, starts, starts_mark, starts_word, mark_holds, word_holds, ident_holds, number_holds, idents_holds, list_holds, loop_holds, repeated_holds, further_reads}
use Rattle.grammar.proofs.SoundTypes.{constant_sound, type_sound}
use Rattle.grammar.proofs.SoundStatements.{statement_sound, optional_sound}

-- ---- parts

pub constants_sound : (ss : List PlacedSym) → Holds (λ xs rest. repeated ConstantR xs ss rest) (constants_of ss)
unfolding constants_of constant_declaration_of
constants_sound ss =
    repeated_holds naming (λ _. constant_declaration_of) ConstantR
    (λ o l e. bind (ident_holds l)
    (λ n r1 h1. bind (mark_holds m.Equal r1)
    (λ _ r2 h2. bind (constant_sound r2)
    (λ c r3 h3. bind (mark_holds m.Semicolon r3)
    (λ _ rest h4. done (r1, h1, (r2, h2, (r3, h3, h4)))))))) ss

pub types_sound_lem : (d : ℕ) (ss : List PlacedSym) → Holds (λ xs rest. repeated (TypeR d) xs ss rest) (types_of d ss)
unfolding types_of type_declaration_of
types_sound_lem d ss =
    repeated_holds naming (λ _. type_declaration_of d) (TypeR d)
    (λ o l e. bind (ident_holds l)
    (λ n r1 h1. bind (mark_holds m.Equal r1)
    (λ _ r2 h2. bind (type_sound d r2)
    (λ t r3 h3. bind (mark_holds m.Semicolon r3)
    (λ _ rest h4. done (r1, h1, (r2, h2, (r3, h3, h4)))))))) ss

register_sound : (d : ℕ) (n : Lex) (all ss : List PlacedSym) → ident n all ss → sym_is_mark m.LeftBracket (head ss).symbol ≡ true → Holds (λ x rest. VariablesR d x all rest) (register_of d n ss)
unfolding inner
register_sound zero n all ss i e = faulted
register_sound (suc d) n all ss i e =
    bind (number_holds (tail ss))
    (λ a r2 h2. bind (mark_holds m.RightBracket r2)
    (λ _ r3 h3. bind (mark_holds m.Colon r3)
    (λ _ r4 h4. bind (type_sound (suc d) r4)
    (λ t r5 h5. bind (mark_holds m.Semicolon r5)
    (λ _ rest h6. done (ss, i, (tail ss, ((head ss).place, starts_mark m.LeftBracket ss e), (r3, (r2, h2, h3), (r4, h4, (r5, h5, h6))))))))))

variables_sound : (d : ℕ) (n : Lex) (all ss : List PlacedSym) → ident n all ss → Holds (λ x rest. VariablesR d x all rest) (variables_after d n ss)
variables_sound d n all ss i =
    bind {P = λ ns r1. idents ns all r1}
    (bind (repeated_holds (separator m.Comma) (behind (λ _ b. b) ident_of) (λ b. mark m.Comma then ident b) (further_reads m.Comma ident_of ident ident_holds) ss) (λ ns r1 h. done (ss, i, h)))
    (λ ns r1 h1. bind (mark_holds m.Colon r1)
    (λ _ r2 h2. bind (type_sound d r2)
    (λ t r3 h3. bind (mark_holds m.Semicolon r3)
    (λ _ rest h4. done (r1, h1, (r2, h2, (r3, h3, h4)))))))

declaration_sound : (d : ℕ) (ss : List PlacedSym) → Holds (λ x rest. VariablesR d x ss rest) (variable_declaration_of d ss)
unfolding variable_declaration_of
declaration_sound d ss =
    bind (ident_holds ss) (λ n r1 i. choose (sym_is_mark m.LeftBracket (head r1).symbol) (λ e. register_sound d n ss r1 i e) (λ e. variables_sound d n ss r1 i))

pub variable_list_sound : (d : ℕ) (ss : List PlacedSym) → Holds (λ xs rest. repeated (VariablesR d) xs ss rest) (variable_list_of d ss)
unfolding variable_list_of
variable_list_sound d ss = repeated_holds naming (λ _. variable_declaration_of d) (VariablesR d) (λ o l e. declaration_sound d l) ss

-- the word of a part
abbrev part_word : PartKind → Word
part_word part.Constants = w.Const
part_word part.Types = w.Type
part_word part.Variables = w.Var

part_is : (k : PartKind) (s : Sym) → part_kind s ≡ Some k → sym_is_word (part_word k) s ≡ true
part_is part.Constants s e = grind (arith, nat_tests)
part_is part.Types s e = grind (arith, nat_tests)
part_is part.Variables s e = grind (arith, nat_tests)

part_sound : (d : ℕ) (k : PartKind) (ss : List PlacedSym) → sym_is_word (part_word k) (head ss).symbol ≡ true → Holds (λ x rest. PartR d x ss rest) (part_reader d k ss)
unfolding part_reader
part_sound d part.Constants ss e = bind (constants_sound (tail ss)) (λ xs rest h. done (tail ss, ((head ss).place, starts_word w.Const ss e), h))
part_sound d part.Types ss e = bind (types_sound_lem d (tail ss)) (λ xs rest h. done (tail ss, ((head ss).place, starts_word w.Type ss e), h))
part_sound d part.Variables ss e = bind (variable_list_sound d (tail ss)) (λ xs rest h. done (tail ss, ((head ss).place, starts_word w.Var ss e), h))

pub parts_sound : (d : ℕ) (ss : List PlacedSym) → Holds (λ xs rest. repeated (PartR d) xs ss rest) (parts_of d ss)
unfolding parts_of
parts_sound d ss = repeated_holds part_kind (part_reader d) (PartR d) (λ o l e. part_sound d o l (part_is o (head l).symbol e)) ss

-- ---- procedures

const_is : (s : Sym) → marking s ≡ Some marked.Const → sym_is_word w.Const s ≡ true
const_is s e = grind (arith, nat_tests)

var_is : (s : Sym) → marking s ≡ Some marked.Var → sym_is_word w.Var s ≡ true
var_is s e = grind (arith, nat_tests)

pub section_sound : (ss : List PlacedSym) → Holds (λ x rest. SectionR x ss rest) (formals_section_of ss)
unfolding formals_section_of
section_sound ss = go (marking (head ss).symbol) refl
  where
    from : (k : Option Marking) (mid : List PlacedSym) → MarkingR k ss mid → Holds (λ x rest. SectionR x ss rest) (section_from k (head ss).place mid)
    from k mid h =
        bind (idents_holds mid)
        (λ ns r1 h1. bind (mark_holds m.Colon r1)
        (λ _ r2 h2. bind (ident_holds r2)
        (λ c rest h3. done (refl, (mid, h, (r1, h1, (r2, h2, h3)))))))

    go : (k : Option Marking) → marking (head ss).symbol ≡ k → Holds (λ x rest. SectionR x ss rest) (section_from k (head ss).place (unmarked k ss))
    go None e = from None ss refl
    go (Some marked.Const) e = from (Some marked.Const) (tail ss) ((head ss).place, starts_word w.Const ss (const_is (head ss).symbol e))
    go (Some marked.Var) e = from (Some marked.Var) (tail ss) ((head ss).place, starts_word w.Var ss (var_is (head ss).symbol e))

formals_of_lem : (d : ℕ) (xs : List Section) (ss mid left rest : List PlacedSym) → mark m.LeftParen ss mid → separated m.Semicolon SectionR xs mid left → mark m.RightParen left rest → FormalsR xs (suc d) ss rest
formals_of_lem d [] ss mid left rest o h c = absurd h
formals_of_lem d (x ∷ xs) ss mid left rest o h c = (mid, o, (left, h, c))

pub formals_sound : (d : ℕ) (ss : List PlacedSym) → Holds (λ xs rest. FormalsR xs d ss rest) (formals_of d ss)
unfolding formals_of inner
formals_sound zero ss = choose (sym_is_mark m.LeftParen (head ss).symbol) (λ e. faulted) (λ e. done refl)
formals_sound (suc d) ss =
    choose (sym_is_mark m.LeftParen (head ss).symbol)
    (λ e. bind (list_holds m.Semicolon formals_section_of SectionR section_sound (tail ss))
    (λ xs left h. bind (mark_holds m.RightParen left)
    (λ _ rest c. done (formals_of_lem d xs ss (tail ss) left rest ((head ss).place, starts_mark m.LeftParen ss e) h c))))
    (λ e. done refl)

pub result_sound : (ss : List PlacedSym) → Holds (λ o rest. ResultR o ss rest) (result_of ss)
unfolding result_of
result_sound ss =
    choose (sym_is_mark m.Colon (head ss).symbol)
    (λ e. bind (ident_holds (tail ss)) (λ n rest h. done (tail ss, ((head ss).place, starts_mark m.Colon ss e), h)))
    (λ e. done refl)

pub body_sound : (d : ℕ) (ss : List PlacedSym) → Holds (λ b rest. BodyR (stmts b) d ss rest) (body_of d ss)
unfolding body_of
body_sound d ss = bind (optional_sound d (statement_sound d) w.Begin ss) (λ b mid h. bind (word_holds w.End mid) (λ _ rest k. done (mid, h, k)))

closes_is : (n : Lex) (s : Sym) → closes n s ≡ true → (b : List ℕ) × (same_name n.0 b ≡ true) × (s ≡ symbol.name b)
closes_is n (symbol.name b) e = (b, e, refl)
closes_is n (symbol.number b) e = absurd (grind arith)
closes_is n (symbol.character b) e = absurd (grind arith)
closes_is n (symbol.word v) e = absurd (grind arith)
closes_is n (symbol.mark k) e = absurd (grind arith)
closes_is n symbol.ending e = absurd (grind arith)

pub closing_sound : (n : Lex) (ss : List PlacedSym) → Holds (λ _ rest. repeats n ss rest) (closing_of n ss)
unfolding closing_of
closing_sound n ss = choose (closes n (head ss).symbol) (λ e. done (closed (closes_is n (head ss).symbol e))) (λ e. faulted)
  where
    closed : (b : List ℕ) × (same_name n.0 b ≡ true) × ((head ss).symbol ≡ symbol.name b) → repeats n ss (tail ss)
    closed c = (c.0, (head ss).place, c.1, starts ss (symbol.name c.0) c.2 (λ z. grind arith))

procedure_sound : (d : ℕ) (ss : List PlacedSym) → sym_is_word w.Procedure (head ss).symbol ≡ true → Holds (λ x rest. ProcR x d ss rest) (procedure_of d ss)
unfolding procedure_of inner
procedure_sound zero ss e = faulted
procedure_sound (suc d) ss e =
    bind (ident_holds (tail ss))
    (λ n r1 h1. bind (formals_sound d r1)
    (λ fs r2 h2. bind (result_sound r2)
    (λ o r3 h3. bind (mark_holds m.Semicolon r3)
    (λ _ r4 h4. bind (parts_sound d r4)
    (λ ps r5 h5. bind (body_sound d r5)
    (λ b r6 h6. bind (closing_sound n r6)
    (λ _ rest h7. done (tail ss, starts_word w.Procedure ss e, (r1, h1, (r2, h2, (r3, h3, (r4, h4, (r5, h5, (r6, h6, h7))))))))))))))

-- ---- modules

names_of_lem : (v : Word) (ns : List Lex) (ss mid left rest : List PlacedSym) → word v ss mid → idents ns mid left → mark m.Semicolon left rest → NamesR v ns ss rest
names_of_lem v [] ss mid left rest o h c = absurd h
names_of_lem v (n ∷ ns) ss mid left rest o h c = (mid, o, (left, h, c))

names_sound : (v : Word) (ss : List PlacedSym) → Holds (λ ns rest. NamesR v ns ss rest) (names_of v ss)
unfolding names_of
names_sound v ss =
    choose (sym_is_word v (head ss).symbol)
    (λ e. bind (idents_holds (tail ss)) (λ ns left h. bind (mark_holds m.Semicolon left) (λ _ rest c. done (names_of_lem v ns ss (tail ss) left rest ((head ss).place, starts_word v ss e) h c))))
    (λ e. done refl)

abbrev pub Keeps : ℕ → Type 0
Keeps d = (ss : List PlacedSym) → Holds (λ t rest. ModulR t d ss rest) (module_for d ss)

abbrev pub KeepsIn : ℕ → Type 0
KeepsIn zero = Unit {0}
KeepsIn (suc d) = Keeps d

-- the word of a kind of declaration, where it tells one
kind_part : (k : PartKind) (s : Sym) → declaration_kind s ≡ Some (declaration.Part k) → sym_is_word (part_word k) s ≡ true
kind_part part.Constants s e = grind (arith, nat_tests)
kind_part part.Types s e = grind (arith, nat_tests)
kind_part part.Variables s e = grind (arith, nat_tests)

kind_procedure : (s : Sym) → declaration_kind s ≡ Some declaration.Procedure → sym_is_word w.Procedure s ≡ true
kind_procedure s e = grind (arith, nat_tests)

item_sound : (d : ℕ) → Keeps d → (k : DeclarationKind) (ss : List PlacedSym) → declaration_kind (head ss).symbol ≡ Some k → Holds (λ x rest. DeclR x d ss rest) (declaration_of (level d) k ss)
item_sound d keeps (declaration.Part k) ss e = bind (part_sound d k ss (kind_part k (head ss).symbol e)) (λ x rest h. done h)
item_sound d keeps declaration.Procedure ss e = bind (procedure_sound d ss (kind_procedure (head ss).symbol e)) (λ x mid h. bind (mark_holds m.Semicolon mid) (λ _ rest c. done (mid, h, c)))
item_sound d keeps declaration.Module ss e = bind (keeps ss) (λ x mid h. bind (mark_holds m.Semicolon mid) (λ _ rest c. done (mid, h, c)))

declarations_sound : (d : ℕ) → Keeps d → (ss : List PlacedSym) → Holds (λ xs rest. DeclsR (decls xs) d ss rest) (declarations_of (level d) ss)
unfolding declarations_of
declarations_sound d keeps ss =
    loop_holds declaration_kind (declaration_of (level d)) (λ x. DeclR x d) (item_sound d keeps) (λ xs. DeclsR (decls xs) d) (λ l. refl) (λ x xs l mid rest h k. (mid, h, k)) ss

device_is : (s : Sym) → opening s ≡ Some true → sym_is_word w.Device s ≡ true
device_is s e = grind (arith, nat_tests)

module_is : (s : Sym) → opening s ≡ Some false → sym_is_word w.Module s ≡ true
module_is s e = grind (arith, nat_tests)

-- a heading with the words that open the module
abbrev Headed : Head → Phrase
Headed h = opening_of h then HeadR h

word_sound : (v : Bool) (ss : List PlacedSym) → opening (head ss).symbol ≡ Some v → Holds (λ _ rest. OpeningR v (head ss).place ss rest) (module_word_of v (tail ss))
unfolding module_word_of
word_sound true ss e = weaken (word_holds w.Module (tail ss)) (λ _ rest k. (tail ss, starts_word w.Device ss (device_is (head ss).symbol e), k))
word_sound false ss e = done (starts_word w.Module ss (module_is (head ss).symbol e))

heading_sound : (v : Bool) (ss : List PlacedSym) → opening (head ss).symbol ≡ Some v → Holds (λ h rest. Headed h ss rest) (heading_of (head ss).place v (tail ss))
unfolding heading_of
heading_sound v ss e =
    bind (word_sound v ss e)
    (λ _ r0 h0. bind (ident_holds r0)
    (λ n r1 h1. bind (mark_holds m.Semicolon r1)
    (λ _ r2 h2. bind (names_sound w.Define r2)
    (λ ds r3 h3. bind (names_sound w.Use r3)
    (λ us rest h4. done (r0, h0, (r1, h1, (r2, h2, (r3, h3, h4)))))))))

module_at_lem : (d : ℕ) → KeepsIn d → (ss : List PlacedSym) (x : Option Bool) → opening (head ss).symbol ≡ x → Holds (λ t rest. ModulR t d ss rest) (module_at (inner level d) x ss)
unfolding inner
module_at_lem d keeps ss None e = faulted
module_at_lem zero keeps ss (Some v) e = faulted
module_at_lem (suc d) keeps ss (Some v) e =
    bind (heading_sound v ss e)
    (λ h r1 h1. bind (declarations_sound d keeps r1)
    (λ ds r2 h2. bind (body_sound d r2)
    (λ b r3 h3. bind (closing_sound (reader.name_of h) r3)
    (λ _ rest h4. done (h1.0, h1.1, (r1, h1.2, (r2, h2, (r3, h3, renamed h r3 rest h4))))))))
  where
    renamed : (h : Head) (r3 rest : List PlacedSym) → repeats (reader.name_of h) r3 rest → repeats (name_of h) r3 rest
    renamed (tree.heading k b n ds us) r3 rest h = h

module_step : (d : ℕ) → KeepsIn d → (ss : List PlacedSym) → Holds (λ t rest. ModulR t d ss rest) (module_of (inner level d) ss)
unfolding module_of
module_step d keeps ss = module_at_lem d keeps ss (opening (head ss).symbol) refl

pub module_sound : (d : ℕ) → Keeps d
unfolding module_for inner
module_sound zero ss = module_step zero tt ss
module_sound (suc d) ss = module_step (suc d) (λ l. module_sound d l) ss

end_holds : (ss : List PlacedSym) → Holds (λ _ rest. (ss ≡ []) × (rest ≡ [])) (expect_end ss)
unfolding expect_end
end_holds [] = done (refl, refl)
end_holds (s ∷ ss) = faulted

pub program_sound : (ss : List PlacedSym) → Holds (λ t rest. Sentence t deepest ss × (rest ≡ [])) (program_of ss)
unfolding program_of
program_sound ss =
    bind (module_sound deepest ss)
    (λ x mid h. bind (mark_holds m.Dot mid)
    (λ _ left k. bind (end_holds left)
    (λ _ rest e. done ((mid, h, (k.0, k.1 ∙ ap (λ l. symbol.mark m.Dot at k.0 ∷ l) e.0)), e.1))))
