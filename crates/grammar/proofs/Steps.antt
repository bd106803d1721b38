-- What a phrase says is what its reader reads, for each way to put readers together. Assumes nothing.
use Rattle.std.proofs.Common.{◌≡◌, ℕ, true, false, cond, List, [], ◌∷◌, Some, None, Option, sym, refl, ap, ◌∙◌, subst, arith}
use Rattle.std.proofs.lemmas.Bool.Decides.{nat_tests}
use Rattle.symbol.specs.Symbols.{Sym, PlacedSym}
use Rattle.symbol.specs.Symbols as symbol
use Rattle.symbol.specs.declared.mark.Mark.{Mark}
use Rattle.symbol.specs.declared.mark.Mark.TheVariants as m
use Rattle.symbol.specs.declared.word.Word.{Word}
use Rattle.cursor.specs.Kinds.{sym_is_mark, sym_is_word}
use Rattle.cursor.specs.Reading.{Out, Reads, got, after, head, tail, expect_mark, expect_word, Lex, name_in, number_in, ident_of, number_of, loop, behind, separator, further_of, list_of, idents_of}
use Rattle.cursor.proofs.Loops.{Reading, Turns, loop_stop, loop_turn, further_turns, ident_within}
use Rattle.cursor.proofs.Steps.{expect_yes, ident_yes, number_yes}
use Rattle.grammar.specs.Phrases.{Phrase, ◌then◌, symbol_of, symbol_at, mark, word, ident, number, repeated, separated, idents}

-- one reader behind another
pub on : {A B : Type 0} {o : Out A} {a : A} {mid : List PlacedSym} {u : Out B} (k : A → Reads B) → o ≡ got a mid → k a mid ≡ u → after o k ≡ u
unfolding after
on k e f = ap (λ x. after x k) e ∙ f

-- ---- one symbol

pub first : {s : Sym} {ss rest : List PlacedSym} (P : Sym → Type 0) → symbol_of s ss rest → P s → P (head ss).symbol
unfolding head
first P h p = subst (λ l. P (head l).symbol) (sym h.1) p

pub first_at : {s : Sym} {k : ℕ} {ss rest : List PlacedSym} (P : Sym → Type 0) → symbol_at s k ss rest → P s → P (head ss).symbol
unfolding head
first_at P h p = subst (λ l. P (head l).symbol) (sym h) p

pub same_first : {ss rest : List PlacedSym} (P : Sym → Type 0) → ss ≡ rest → P (head rest).symbol → P (head ss).symbol
same_first P h p = subst (λ l. P (head l).symbol) (sym h) p

pub left_of : {s : Sym} {ss rest : List PlacedSym} → symbol_of s ss rest → tail ss ≡ rest
unfolding tail
left_of h = ap tail h.1

pub mark_same : (k : Mark) → sym_is_mark k (symbol.mark k) ≡ true
mark_same k = grind (arith, nat_tests)

pub word_same : (v : Word) → sym_is_word v (symbol.word v) ≡ true
word_same v = grind (arith, nat_tests)

pub mark_read : (k : Mark) (ss rest : List PlacedSym) → mark k ss rest → expect_mark k ss ≡ got tt rest
mark_read k ss rest h = expect_yes (sym_is_mark k) ss rest (first (λ s. sym_is_mark k s ≡ true) h (mark_same k)) (sym (left_of h))

pub word_read : (v : Word) (ss rest : List PlacedSym) → word v ss rest → expect_word v ss ≡ got tt rest
word_read v ss rest h = expect_yes (sym_is_word v) ss rest (first (λ s. sym_is_word v s ≡ true) h (word_same v)) (sym (left_of h))

pub ident_read : (n : Lex) (ss rest : List PlacedSym) → ident n ss rest → ident_of ss ≡ got n rest
unfolding head tail
ident_read n ss rest h = ident_yes ss rest n.0 n.1 (ap (λ l. name_in (head l).symbol) h) (sym (ap (λ l. (head l).place) h)) (sym (ap tail h))

pub number_read : (n : Lex) (ss rest : List PlacedSym) → number n ss rest → number_of ss ≡ got n rest
unfolding head tail
number_read n ss rest h = number_yes ss rest n.0 n.1 (ap (λ l. number_in (head l).symbol) h) (sym (ap (λ l. (head l).place) h)) (sym (ap tail h))

-- ---- what may be repeated

module _ {O B : Type 0} (op : Sym → Option O) (item : O → Reads B) (t : Turns op item) where
  pub stops : (ss rest : List PlacedSym) → ss ≡ rest → op (head rest).symbol ≡ None → loop op item ss ≡ got [] rest
  stops ss rest h e = loop_stop op item t ss (same_first (λ s. op s ≡ None) h e) ∙ ap (got []) h

  pub turns : (o : O) (b : B) (bs : List B) (ss mid rest : List PlacedSym) → op (head ss).symbol ≡ Some o → item o ss ≡ got b mid → loop op item mid ≡ got bs rest → loop op item ss ≡ got (b ∷ bs) rest
  turns o b bs ss mid rest e i l = loop_turn op item t o ss e ∙ on _ i (on _ l refl)

  -- N is what must hold of the symbol behind an item
  module _ (Q : B → Phrase) (N : Sym → Type 0) (begins : (b : B) (ss mid : List PlacedSym) → Q b ss mid → N (head ss).symbol) (reads : (b : B) (ss mid : List PlacedSym) → Q b ss mid → N (head mid).symbol → (o : O) × (op (head ss).symbol ≡ Some o) × (item o ss ≡ got b mid)) where
    pub repeated_first : (bs : List B) (ss rest : List PlacedSym) → repeated Q bs ss rest → N (head rest).symbol → N (head ss).symbol
    repeated_first [] ss rest h n = same_first N h n
    repeated_first (b ∷ bs) ss rest h n = begins b ss h.0 h.1

    pub repeated_read : (bs : List B) (ss rest : List PlacedSym) → repeated Q bs ss rest → N (head rest).symbol → op (head rest).symbol ≡ None → loop op item ss ≡ got bs rest
    repeated_read [] ss rest h n e = stops ss rest h e
    repeated_read (b ∷ bs) ss rest h n e =
        let r = reads b ss h.0 h.1 (repeated_first bs h.0 rest h.2 n) in turns r.0 b bs ss h.0 rest r.1 r.2 (repeated_read bs h.0 rest h.2 n e)

-- ---- lists with separators

module _ {B : Type 0} (k : Mark) (r : Reads B) (w : Reading r) (Q : B → Phrase) (N : Sym → Type 0) (parts : N (symbol.mark k)) (reads : (b : B) (ss mid : List PlacedSym) → Q b ss mid → N (head mid).symbol → r ss ≡ got b mid) where
  pub further_read : (bs : List B) (ss rest : List PlacedSym) → repeated (λ y. mark k then Q y) bs ss rest → N (head rest).symbol → sym_is_mark k (head rest).symbol ≡ false → further_of k r ss ≡ got bs rest
  further_read bs ss rest h n e =
      repeated_read (separator k) (behind (λ _ b. b) r) (further_turns k r w) (λ y. mark k then Q y) N (λ b l mid q. first N q.1 parts)
      (λ b l mid q j. (tt, ap (λ v. cond v (Some tt) None) (first (λ s. sym_is_mark k s ≡ true) q.1 (mark_same k)), on _ (ap r (left_of q.1) ∙ reads b q.0 mid q.2 j) refl)) bs ss rest h n
      (ap (λ v. cond v (Some tt) None) e)

  pub separated_read : (bs : List B) (ss rest : List PlacedSym) → separated k Q bs ss rest → N (head rest).symbol → sym_is_mark k (head rest).symbol ≡ false → list_of k r ss ≡ got bs rest
  unfolding list_of
  separated_read [] ss rest h n e = absurd h
  separated_read (b ∷ bs) ss rest h n e =
      on _ (reads b ss h.0 h.1 (behind_first bs h.0 rest h.2 n)) (on _ (further_read bs h.0 rest h.2 n e) refl)
    where
      behind_first : (cs : List B) (l left : List PlacedSym) → repeated (λ y. mark k then Q y) cs l left → N (head left).symbol → N (head l).symbol
      behind_first [] l left q j = same_first N q j
      behind_first (c ∷ cs) l left q j = first N q.1.1 parts

pub idents_read : (ns : List Lex) (ss rest : List PlacedSym) → idents ns ss rest → sym_is_mark m.Comma (head rest).symbol ≡ false → idents_of ss ≡ got ns rest
unfolding idents_of
idents_read ns ss rest h e = separated_read m.Comma ident_of ident_within ident (λ _. Unit {0}) tt (λ n l mid q _. ident_read n l mid q) ns ss rest h tt e
