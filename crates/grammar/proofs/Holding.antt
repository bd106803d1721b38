-- What holds of all that a reader reads, for each way to put readers together. Assumes nothing.
use Rattle.std.proofs.Common.{◌≡◌, ℕ, zero, suc, Bool, true, false, cond, eqb, List, [], ◌∷◌, length, get_or, Some, None, Option, sym, refl, ap, ◌∙◌, subst, arith}
use Rattle.std.proofs.lemmas.Bool.Decides.{nat_tests}
use Rattle.fault.specs.declared.Cause.{Cause}
use Rattle.symbol.specs.Symbols.{Sym, PlacedSym}
use Rattle.symbol.specs.Symbols as symbol
use Rattle.symbol.specs.declared.mark.Mark.{Mark}
use Rattle.symbol.specs.declared.mark.Mark.TheVariants as m
use Rattle.symbol.specs.declared.word.Word.{Word}
use Rattle.symbol.specs.declared.word.Word.TheVariants as w
use Rattle.cursor.specs.Kinds.{mark_number, word_number, sym_is_mark, sym_is_word}
use Rattle.cursor.specs.Reading.{Out, Reads, got, fault, after, head, tail, expect, expect_mark, expect_word, name_in, number_in, lexeme_at, ident_of, number_of, turn, many, loop, behind, separator, list_of, idents_of}
use Rattle.grammar.specs.Phrases.{Phrase, ◌at◌, ◌then◌, mark, word, ident, number, repeated, separated, idents}

abbrev HoldsIn : {T : Type 0} → (T → List PlacedSym → Type 0) → Out T → Type 0
HoldsIn P (got t rest) = P t rest
HoldsIn P (fault c rest) = Unit {0}

-- P holds of what was read and what is left
pub record Holds {T : Type 0} (P : T → List PlacedSym → Type 0) (o : Out T) : Type 0 where
  pub holding : HoldsIn P o

pub done : {T : Type 0} {P : T → List PlacedSym → Type 0} {t : T} {rest : List PlacedSym} → P t rest → Holds P (got t rest)
done h = record { holding = h }

pub faulted : {T : Type 0} {P : T → List PlacedSym → Type 0} {c : Cause} {rest : List PlacedSym} → Holds P (fault c rest)
faulted = record { holding = tt }

pub held : {T : Type 0} {P : T → List PlacedSym → Type 0} {o : Out T} {t : T} {rest : List PlacedSym} → Holds P o → o ≡ got t rest → P t rest
held {T} {P} h e = subst (HoldsIn P) e h.holding

bind_at : {A B : Type 0} (P : A → List PlacedSym → Type 0) (Q : B → List PlacedSym → Type 0) (o : Out A) (k : A → Reads B) → HoldsIn P o → ((a : A) (rest : List PlacedSym) → P a rest → Holds Q (k a rest)) → Holds Q (after o k)
unfolding after
bind_at P Q (got a rest) k h g = g a rest h
bind_at P Q (fault c rest) k h g = faulted

-- one reader behind another
pub bind : {A B : Type 0} {P : A → List PlacedSym → Type 0} {Q : B → List PlacedSym → Type 0} {o : Out A} {k : A → Reads B} → Holds P o → ((a : A) (rest : List PlacedSym) → P a rest → Holds Q (k a rest)) → Holds Q (after o k)
bind {A} {B} {P} {Q} {o} {k} h g = bind_at P Q o k h.holding g

weaken_at : {A : Type 0} (P Q : A → List PlacedSym → Type 0) (o : Out A) → HoldsIn P o → ((a : A) (rest : List PlacedSym) → P a rest → Q a rest) → Holds Q o
weaken_at P Q (got a rest) h g = done (g a rest h)
weaken_at P Q (fault c rest) h g = faulted

-- what follows from what holds
pub weaken : {A : Type 0} {P Q : A → List PlacedSym → Type 0} {o : Out A} → Holds P o → ((a : A) (rest : List PlacedSym) → P a rest → Q a rest) → Holds Q o
weaken {A} {P} {Q} {o} h g = weaken_at P Q o h.holding g

-- a reader that is chosen by a test
pub choose : {T : Type 0} {P : T → List PlacedSym → Type 0} (b : Bool) {o u : Out T} → (b ≡ true → Holds P o) → (b ≡ false → Holds P u) → Holds P (cond b o u)
choose true h k = h refl
choose false h k = k refl

-- ---- one symbol

-- the first symbol is s, which is not the end
pub starts : (ss : List PlacedSym) (s : Sym) → (head ss).symbol ≡ s → (symbol.ending ≡ s → ⊥) → ss ≡ s at (head ss).place ∷ tail ss
unfolding head tail
starts [] s e n = absurd (n e)
starts (x ∷ ss) s e n = ap (λ y. y at x.place ∷ ss) e

mark_of : ℕ → Mark
mark_of n = get_or (m.Plus ∷ m.Minus ∷ m.Times ∷ m.Slash ∷ m.Equal ∷ m.NotEqual ∷ m.Less ∷ m.LessEqual ∷ m.Greater ∷ m.GreaterEqual ∷ m.Becomes ∷ m.LeftParen ∷ m.RightParen ∷ m.LeftBracket ∷ m.RightBracket ∷ m.Dot ∷ m.Comma ∷ m.Colon ∷ m.Semicolon ∷ []) n m.Plus

word_of : ℕ → Word
word_of n =
    get_or
    (w.And ∷ w.Array ∷ w.Begin ∷ w.Case ∷ w.Const ∷ w.Define ∷ w.Device ∷ w.Div ∷ w.Do ∷ w.Else ∷ w.Elsif ∷ w.End ∷ w.Exit ∷ w.If ∷ w.Interface ∷ w.Loop ∷ w.Mod ∷ w.Module ∷ w.Not ∷ w.Of ∷ w.Or ∷ w.Procedure ∷ w.Process ∷ w.Record ∷ w.Repeat ∷ w.Then ∷ w.Type ∷ w.Until ∷ w.Use ∷ w.Value ∷ w.Var ∷ w.When ∷ w.While ∷ w.With ∷ w.Xor ∷ []) n w.And

mark_back : (k : Mark) → mark_of (mark_number k) ≡ k
unfolding mark_of
mark_back m.Plus = refl
mark_back m.Minus = refl
mark_back m.Times = refl
mark_back m.Slash = refl
mark_back m.Equal = refl
mark_back m.NotEqual = refl
mark_back m.Less = refl
mark_back m.LessEqual = refl
mark_back m.Greater = refl
mark_back m.GreaterEqual = refl
mark_back m.Becomes = refl
mark_back m.LeftParen = refl
mark_back m.RightParen = refl
mark_back m.LeftBracket = refl
mark_back m.RightBracket = refl
mark_back m.Dot = refl
mark_back m.Comma = refl
mark_back m.Colon = refl
mark_back m.Semicolon = refl

word_back : (v : Word) → word_of (word_number v) ≡ v
unfolding word_of
word_back w.And = refl
word_back w.Array = refl
word_back w.Begin = refl
word_back w.Case = refl
word_back w.Const = refl
word_back w.Define = refl
word_back w.Device = refl
word_back w.Div = refl
word_back w.Do = refl
word_back w.Else = refl
word_back w.Elsif = refl
word_back w.End = refl
word_back w.Exit = refl
word_back w.If = refl
word_back w.Interface = refl
word_back w.Loop = refl
word_back w.Mod = refl
word_back w.Module = refl
word_back w.Not = refl
word_back w.Of = refl
word_back w.Or = refl
word_back w.Procedure = refl
word_back w.Process = refl
word_back w.Record = refl
word_back w.Repeat = refl
word_back w.Then = refl
word_back w.Type = refl
word_back w.Until = refl
word_back w.Use = refl
word_back w.Value = refl
word_back w.Var = refl
word_back w.When = refl
word_back w.While = refl
word_back w.With = refl
word_back w.Xor = refl

same : (a b : ℕ) → eqb a b ≡ true → a ≡ b
same a b e = grind (arith, nat_tests)

pub mark_is : (k : Mark) (s : Sym) → sym_is_mark k s ≡ true → s ≡ symbol.mark k
mark_is k (symbol.name b) e = absurd (grind arith)
mark_is k (symbol.number b) e = absurd (grind arith)
mark_is k (symbol.character b) e = absurd (grind arith)
mark_is k (symbol.word v) e = absurd (grind arith)
mark_is k (symbol.mark j) e = ap symbol.mark (sym (mark_back j) ∙ sym (ap mark_of (same (mark_number k) (mark_number j) e)) ∙ mark_back k)
mark_is k symbol.ending e = absurd (grind arith)

pub word_is : (v : Word) (s : Sym) → sym_is_word v s ≡ true → s ≡ symbol.word v
word_is v (symbol.name b) e = absurd (grind arith)
word_is v (symbol.number b) e = absurd (grind arith)
word_is v (symbol.character b) e = absurd (grind arith)
word_is v (symbol.word u) e = ap symbol.word (sym (word_back u) ∙ sym (ap word_of (same (word_number v) (word_number u) e)) ∙ word_back v)
word_is v (symbol.mark k) e = absurd (grind arith)
word_is v symbol.ending e = absurd (grind arith)

pub starts_mark : (k : Mark) (ss : List PlacedSym) → sym_is_mark k (head ss).symbol ≡ true → ss ≡ symbol.mark k at (head ss).place ∷ tail ss
starts_mark k ss e = starts ss (symbol.mark k) (mark_is k _ e) (λ z. grind arith)

pub starts_word : (v : Word) (ss : List PlacedSym) → sym_is_word v (head ss).symbol ≡ true → ss ≡ symbol.word v at (head ss).place ∷ tail ss
starts_word v ss e = starts ss (symbol.word v) (word_is v _ e) (λ z. grind arith)

pub mark_holds : (k : Mark) (ss : List PlacedSym) → Holds (λ _ rest. mark k ss rest) (expect_mark k ss)
unfolding expect
mark_holds k ss = choose (sym_is_mark k (head ss).symbol) (λ e. done ((head ss).place, starts_mark k ss e)) (λ e. faulted)

pub word_holds : (v : Word) (ss : List PlacedSym) → Holds (λ _ rest. word v ss rest) (expect_word v ss)
unfolding expect
word_holds v ss = choose (sym_is_word v (head ss).symbol) (λ e. done ((head ss).place, starts_word v ss e)) (λ e. faulted)

name_in_lem : (s : Sym) (b : List ℕ) → name_in s ≡ Some b → s ≡ symbol.name b
name_in_lem s b e = grind arith

number_in_lem : (s : Sym) (b : List ℕ) → number_in s ≡ Some b → s ≡ symbol.number b
number_in_lem s b e = grind arith

pub ident_holds : (ss : List PlacedSym) → Holds (λ n rest. ident n ss rest) (ident_of ss)
unfolding ident_of
ident_holds ss = go (name_in (head ss).symbol) refl
  where
    go : (x : Option (List ℕ)) → name_in (head ss).symbol ≡ x → Holds (λ n rest. ident n ss rest) (lexeme_at x ss)
    go None e = faulted
    go (Some b) e = done (starts ss (symbol.name b) (name_in_lem _ b e) (λ z. grind arith))

pub number_holds : (ss : List PlacedSym) → Holds (λ n rest. number n ss rest) (number_of ss)
unfolding number_of
number_holds ss = go (number_in (head ss).symbol) refl
  where
    go : (x : Option (List ℕ)) → number_in (head ss).symbol ≡ x → Holds (λ n rest. number n ss rest) (lexeme_at x ss)
    go None e = faulted
    go (Some b) e = done (starts ss (symbol.number b) (number_in_lem _ b e) (λ z. grind arith))

-- ---- what may be repeated. P is what the items are together

module _ {O B : Type 0} (op : Sym → Option O) (item : O → Reads B) (Q : B → Phrase) (reads : (o : O) (ss : List PlacedSym) → op (head ss).symbol ≡ Some o → Holds (λ b rest. Q b ss rest) (item o ss)) where
  module _ (P : List B → Phrase) (none : (ss : List PlacedSym) → P [] ss ss) (more : (b : B) (bs : List B) (ss mid rest : List PlacedSym) → Q b ss mid → P bs mid rest → P (b ∷ bs) ss rest) where
    many_holds : (n : ℕ) (ss : List PlacedSym) → Holds (λ bs rest. P bs ss rest) (many op item n ss)
    unfolding many
    many_holds zero ss = done (none ss)
    many_holds (suc n) ss = go (λ rest. many_holds n rest) (op (head ss).symbol) refl
      where
        go : ((rest : List PlacedSym) → Holds (λ bs left. P bs rest left) (many op item n rest)) → (x : Option O) → op (head ss).symbol ≡ x → Holds (λ bs rest. P bs ss rest) (turn op item (many op item n) ss x)
        go ih None e = done (none ss)
        go ih (Some o) e = bind (reads o ss e) (λ b mid h. bind (ih mid) (λ bs rest k. done (more b bs ss mid rest h k)))

    pub loop_holds : (ss : List PlacedSym) → Holds (λ bs rest. P bs ss rest) (loop op item ss)
    unfolding loop
    loop_holds ss = many_holds (suc (length ss)) ss

  pub repeated_holds : (ss : List PlacedSym) → Holds (λ bs rest. repeated Q bs ss rest) (loop op item ss)
  repeated_holds ss = loop_holds (repeated Q) (λ l. refl) (λ b bs l mid rest h k. (mid, h, k)) ss

-- the mark tells that an item comes
separator_is : (k : Mark) (s : Sym) → separator k s ≡ Some tt → sym_is_mark k s ≡ true
separator_is k s e = grind (arith, nat_tests)

module _ {B : Type 0} (k : Mark) (r : Reads B) (Q : B → Phrase) (reads : (ss : List PlacedSym) → Holds (λ b rest. Q b ss rest) (r ss)) where
  pub further_reads : (o : Unit {0}) (ss : List PlacedSym) → separator k (head ss).symbol ≡ Some o → Holds (λ b rest. (mark k then Q b) ss rest) (behind (λ _ b. b) r o ss)
  further_reads o ss e = bind (reads (tail ss)) (λ b rest h. done (tail ss, ((head ss).place, starts_mark k ss (separator_is k _ e)), h))

  pub list_holds : (ss : List PlacedSym) → Holds (λ bs rest. separated k Q bs ss rest) (list_of k r ss)
  unfolding list_of
  list_holds ss =
      bind (reads ss)
      (λ b mid h. bind (repeated_holds (separator k) (behind (λ _ b. b) r) (λ b. mark k then Q b) further_reads mid)
      (λ bs rest j. done (mid, h, j)))

pub idents_holds : (ss : List PlacedSym) → Holds (λ ns rest. idents ns ss rest) (idents_of ss)
unfolding idents_of
idents_holds ss = list_holds m.Comma ident_of ident ident_holds ss
