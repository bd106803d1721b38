-- Nothing is read twice, and the turns of a repetition one by one. Assumes nothing.
use Rattle.std.proofs.Common.{◌≡◌, ℕ, zero, suc, ◌<◌, ◌≤◌, Bool, true, false, cond, List, [], ◌∷◌, ◌++◌, map, length, Some, None, Option, sym, refl, ap, ◌∙◌, subst, arith, append_assoc}
use Rattle.std.proofs.lemmas.List.{append-nil, map-append}
use Rattle.symbol.specs.Symbols.{Sym, PlacedSym, ending}
use Rattle.symbol.specs.declared.mark.Mark.{Mark}
use Rattle.symbol.specs.declared.mark.Mark.TheVariants.{Comma}
use Rattle.symbol.specs.declared.word.Word.{Word}
use Rattle.cursor.specs.Kinds.{sym_is_mark, sym_is_word}
use Rattle.cursor.specs.Reading.{Out, Reads, got, fault, after, mapped, head, tail, expect, expect_mark, expect_word, name_in, number_in, lexeme_at, ident_of, number_of, inner, nested, turn, many, loop, behind, separator, further_of, list_of, idents_of}

-- ---- answers put together

pub after_after : {A B C : Type 0} (o : Out A) (k : A → Reads B) (j : B → Reads C) → after (after o k) j ≡ after o (λ a rest. after (k a rest) j)
unfolding after
after_after (got a rest) k j = refl
after_after (fault c rest) k j = refl

pub after_same : {A B : Type 0} (o : Out A) (k j : A → Reads B) → ((a : A) (rest : List PlacedSym) → k a rest ≡ j a rest) → after o k ≡ after o j
unfolding after
after_same (got a rest) k j e = e a rest
after_same (fault c rest) k j e = refl

pub mapped_same : {A B : Type 0} (o : Out A) (f g : A → B) → ((a : A) → f a ≡ g a) → mapped f o ≡ mapped g o
mapped_same o f g e = after_same o _ _ (λ a rest. ap (λ b. got b rest) (e a))

pub mapped_id : {A : Type 0} (o : Out A) → mapped (λ a. a) o ≡ o
unfolding after
mapped_id (got a rest) = refl
mapped_id (fault c rest) = refl

-- a reader behind a list, where the list is read one item further
pub within_list : (A B C : Type 0) (o : Out B) (x : Out A) (k : A → Reads B) (j : B → Reads C) → o ≡ after x k → after o j ≡ after x (λ a rest. after (k a rest) j)
within_list A B C o x k j e = ap (λ z. after z j) e ∙ after_after x k j

-- ---- how much is left

-- at most n symbols are left
abbrev pub Within : {T : Type 0} → ℕ → Out T → Type 0
Within n (got t rest) = length rest ≤ n
Within n (fault k rest) = Unit {0}

abbrev pub Reading : {T : Type 0} → Reads T → Type 0
Reading r = (ss : List PlacedSym) → Within (length ss) (r ss)

pub within_more : {A : Type 0} (m n : ℕ) (o : Out A) → m ≤ n → Within m o → Within n o
within_more m n (got a rest) l h = omega arith
within_more m n (fault k rest) l h = tt

pub within_after : {A B : Type 0} (n : ℕ) (o : Out A) (k : A → Reads B) → Within n o → ((a : A) → Reading (k a)) → Within n (after o k)
unfolding after
within_after n (got a rest) k h g = within_more _ n (k a rest) h (g a rest)
within_after n (fault m rest) k h g = tt

pub reading_got : {A : Type 0} (a : A) → Reading (got a)
reading_got a ss = omega arith

pub within_mapped : {A B : Type 0} (n : ℕ) (f : A → B) (o : Out A) → Within n o → Within n (mapped f o)
within_mapped n f o h = within_after n o _ h (λ a ss. reading_got (f a) ss)

pub length_tail : (ss : List PlacedSym) → length (tail ss) ≤ length ss
unfolding tail
length_tail [] = omega arith
length_tail (s ∷ ss) = omega arith

pub within_tail : {A : Type 0} (o : Out A) (ss : List PlacedSym) → Within (length (tail ss)) o → Within (length ss) o
within_tail o ss h = within_more _ _ o (length_tail ss) h

pub within_cond : {A : Type 0} (n : ℕ) (b : Bool) (o u : Out A) → Within n o → Within n u → Within n (cond b o u)
within_cond n true o u h k = h
within_cond n false o u h k = k

expect_within : (is : Sym → Bool) → Reading (expect is)
unfolding expect
expect_within is ss = within_cond _ (is (head ss).symbol) _ _ (length_tail ss) tt

pub mark_within : (m : Mark) → Reading (expect_mark m)
mark_within m = expect_within (sym_is_mark m)

pub word_within : (w : Word) → Reading (expect_word w)
word_within w = expect_within (sym_is_word w)

lexeme_within : (o : Option (List ℕ)) → Reading (lexeme_at o)
lexeme_within None ss = tt
lexeme_within (Some b) ss = length_tail ss

pub ident_within : Reading ident_of
unfolding ident_of
ident_within ss = lexeme_within (name_in (head ss).symbol) ss

pub number_within : Reading number_of
unfolding number_of
number_within ss = lexeme_within (number_in (head ss).symbol) ss

-- what holds of the reader one level deeper, where there is one
abbrev pub All : {F : Type 0} → (F → Type 0) → Option F → Type 0
All P None = Unit {0}
All P (Some f) = P f

pub all_inner : {F : Type 0} (P : F → Type 0) (r : ℕ → F) (d : ℕ) → ((e : ℕ) → P (r e)) → All P (inner r d)
unfolding inner
all_inner P r zero h = tt
all_inner P r (suc d) h = h d

pub nested_within : {F T : Type 0} (P : F → Type 0) (i : Option F) (ss : List PlacedSym) (k : F → Reads T) → All P i → ((f : F) → P f → Reading (k f)) → Within (length (tail ss)) (nested i ss k)
nested_within P None ss k a w = tt
nested_within P (Some f) ss k a w = w f a (tail ss)

-- ---- repetition

module _ {O B : Type 0} (op : Sym → Option O) (item : O → Reads B) where
  -- the end begins no turn, and an item reads a symbol at least
  pub record Turns : Type 0 where
    pub ends : op ending ≡ None
    pub reads : (o : O) (ss : List PlacedSym) → Within (length (tail ss)) (item o ss)

  module _ (t : Turns) where
    pub falls : (ss : List PlacedSym) (o : O) → op (head ss).symbol ≡ Some o → length (tail ss) < length ss
    unfolding head tail
    falls [] o e = let n = t.ends in let z : ◌≡◌ {A = ℕ} 0 1 = cc in absurd (omega arith)
    falls (s ∷ ss) o e = omega arith

    many_within : (n : ℕ) → Reading (many op item n)
    unfolding many
    many_within zero ss = omega arith
    many_within (suc n) ss = go (λ rest. many_within n rest) (op (head ss).symbol)
      where
        go : Reading (many op item n) → (x : Option O) → Within (length ss) (turn op item (many op item n) ss x)
        go ih None = omega arith
        go ih (Some o) = within_tail (after (item o ss) _) ss (within_after _ (item o ss) _ (t.reads o ss) (λ b rest. within_mapped _ _ (many op item n rest) (ih rest)))

    pub loop_within : Reading (loop op item)
    unfolding loop
    loop_within ss = many_within (suc (length ss)) ss

    -- more turns than symbols are enough
    enough : (m n : ℕ) (ss : List PlacedSym) → length ss < m → length ss < n → many op item m ss ≡ many op item n ss
    unfolding many after
    enough zero n ss h k = absurd (omega arith)
    enough (suc m) zero ss h k = absurd (omega arith)
    enough (suc m) (suc n) ss h k = go (λ rest l. enough m n rest (omega arith) (omega arith)) (op (head ss).symbol) refl
      where
        at : ((rest : List PlacedSym) → length rest < length ss → many op item m rest ≡ many op item n rest) → length (tail ss) < length ss → (x : Out B) → Within (length (tail ss)) x → after x (λ b rest. mapped (λ bs. b ∷ bs) (many op item m rest)) ≡ after x (λ b rest. mapped (λ bs. b ∷ bs) (many op item n rest))
        at ih l (got b rest) w = ap (mapped (λ bs. b ∷ bs)) (ih rest (omega arith))
        at ih l (fault j rest) w = refl

        go : ((rest : List PlacedSym) → length rest < length ss → many op item m rest ≡ many op item n rest) → (x : Option O) → op (head ss).symbol ≡ x → turn op item (many op item m) ss x ≡ turn op item (many op item n) ss x
        go ih None e = refl
        go ih (Some o) e = at ih (falls ss o e) (item o ss) (t.reads o ss)

    pub loop_stop : (ss : List PlacedSym) → op (head ss).symbol ≡ None → loop op item ss ≡ got [] ss
    unfolding loop many
    loop_stop ss e = rw e

    pub loop_turn : (o : O) (ss : List PlacedSym) → op (head ss).symbol ≡ Some o → loop op item ss ≡ after (item o ss) (λ b rest. mapped (λ bs. b ∷ bs) (loop op item rest))
    unfolding loop many after
    loop_turn o ss e = rw e (go (item o ss) (t.reads o ss))
      where
        go : (x : Out B) → Within (length (tail ss)) x → after x (λ b rest. mapped (λ bs. b ∷ bs) (many op item (length ss) rest)) ≡ after x (λ b rest. mapped (λ bs. b ∷ bs) (many op item (suc (length rest)) rest))
        go (got b rest) w = let l = falls ss o e in ap (mapped (λ bs. b ∷ bs)) (enough (length ss) (suc (length rest)) rest (omega arith) (omega arith))
        go (fault j rest) w = refl

    -- the same, where the list is a part of something
    pub mapped_stop : {C : Type 0} (g : List B → C) (ss : List PlacedSym) → op (head ss).symbol ≡ None → mapped g (loop op item ss) ≡ got (g []) ss
    unfolding after
    mapped_stop g ss e = ap (mapped g) (loop_stop ss e)

    pub mapped_turn : {C : Type 0} (g : List B → C) (o : O) (ss : List PlacedSym) → op (head ss).symbol ≡ Some o → mapped g (loop op item ss) ≡ after (item o ss) (λ b rest. mapped (λ bs. g (b ∷ bs)) (loop op item rest))
    unfolding after
    mapped_turn g o ss e =
        ap (mapped g) (loop_turn o ss e) ∙ after_after (item o ss) _ _ ∙ after_same (item o ss) _ _ (λ b rest. after_after (loop op item rest) _ _ ∙ at (loop op item rest) b)
      where
        at : (x : Out (List B)) (b : B) → after x (λ bs left. after (got (b ∷ bs) left) (λ a rest. got (g a) rest)) ≡ mapped (λ bs. g (b ∷ bs)) x
        at (got bs left) b = refl
        at (fault k left) b = refl

    -- a turn leaves fewer symbols
    pub turn_less : (o : O) (ss rest : List PlacedSym) (b : B) → op (head ss).symbol ≡ Some o → item o ss ≡ got b rest → length rest < length ss
    turn_less o ss rest b e h =
        let l = falls ss o e in
        let w : Within (length (tail ss)) (got b rest) = subst (Within (length (tail ss))) h (t.reads o ss) in
        omega arith

-- ---- an item behind the symbol that tells that it comes

module _ {O T B : Type 0} (op : Sym → Option O) (join : O → T → B) (r : Reads T) (e : op ending ≡ None) (w : Reading r) where
  pub behind_turns : Turns op (behind join r)
  behind_turns = record { ends = e; reads = λ o ss. within_mapped _ (join o) (r (tail ss)) (w (tail ss)) }

  pub behind_stop : {C : Type 0} (g : List B → C) (ss : List PlacedSym) → op (head ss).symbol ≡ None → mapped g (loop op (behind join r) ss) ≡ got (g []) ss
  behind_stop g ss n = mapped_stop op (behind join r) behind_turns g ss n

  pub behind_turn : {C : Type 0} (g : List B → C) (o : O) (ss rest : List PlacedSym) → op (head ss).symbol ≡ Some o → rest ≡ tail ss → mapped g (loop op (behind join r) ss) ≡ after (r rest) (λ t left. mapped (λ bs. g (join o t ∷ bs)) (loop op (behind join r) left))
  unfolding after
  behind_turn g o ss rest s h =
      mapped_turn op (behind join r) behind_turns g o ss s ∙ at (r (tail ss))
      ∙ ap (λ l. after (r l) (λ t left. mapped (λ bs. g (join o t ∷ bs)) (loop op (behind join r) left))) (sym h)
    where
      at : (x : Out T) → after (mapped (join o) x) (λ b left. mapped (λ bs. g (b ∷ bs)) (loop op (behind join r) left)) ≡ after x (λ t left. mapped (λ bs. g (join o t ∷ bs)) (loop op (behind join r) left))
      at (got t left) = refl
      at (fault k left) = refl

  pub behind_less : (o : O) (ss rest left : List PlacedSym) (t : T) → op (head ss).symbol ≡ Some o → rest ≡ tail ss → r rest ≡ got t left → length left < length ss
  behind_less o ss rest left t s h g =
      let l = falls op (behind join r) behind_turns ss o s in
      let m : Within (length rest) (got t left) = subst (Within (length rest)) g (w rest) in
      let n = ap length h in omega arith

-- ---- lists that grow while they are read

-- behind the items read so far stand those to come
pub pushed : {X B : Type 0} (f : X → B) (xs : List X) (x : X) (bs : List B) → map f (xs ++ x ∷ []) ++ bs ≡ map f xs ++ f x ∷ bs
pushed f xs x bs = simp (map-append, append_assoc)

-- a list that begins with one item
pub begins_pushed : {X B : Type 0} (f : X → B) (xs ys : List X) (x : X) (o : Out (List B)) → xs ≡ [] → ys ≡ xs ++ x ∷ [] → mapped (λ bs. f x ∷ bs) o ≡ mapped (λ bs. map f ys ++ bs) o
begins_pushed f xs ys x o e y = mapped_same o _ _ (λ bs. sym (ap (λ l. map f l ++ bs) (y ∙ ap (λ l. l ++ x ∷ []) e)))

-- a list that has nothing yet
pub from_none : {X B : Type 0} (f : X → B) (none : List X) (y : Out (List B)) → none ≡ [] → y ≡ mapped (λ bs. map f none ++ bs) y
from_none f none y e = sym (mapped_id y) ∙ ap (λ l. mapped (λ bs. map f l ++ bs) y) (sym e)

module _ {O B : Type 0} (op : Sym → Option O) (item : O → Reads B) (t : Turns op item) where
  -- one item more, in a list that grows at its end
  pub push_again : {X : Type 0} (f : X → B) (xs ys : List X) (x : X) (o : O) (ss rest : List PlacedSym) {k : Out (List B)} → op (head ss).symbol ≡ Some o → item o ss ≡ got (f x) rest → ys ≡ xs ++ x ∷ [] → mapped (λ bs. map f xs ++ bs) (loop op item ss) ≡ k → mapped (λ bs. map f ys ++ bs) (loop op item rest) ≡ k
  unfolding after
  push_again f xs ys x o ss rest e g y i =
      mapped_same (loop op item rest) _ _ (λ bs. ap (λ l. map f l ++ bs) y ∙ pushed f xs x bs)
      ∙ sym (mapped_turn op item t (λ bs. map f xs ++ bs) o ss e ∙ ap (λ x. after x (λ b left. mapped (λ bs. map f xs ++ b ∷ bs) (loop op item left))) g) ∙ i

  -- the list is whole
  pub whole : {X : Type 0} (f : X → B) (xs none : List X) (ss : List PlacedSym) (y : Out (List B)) → none ≡ [] → op (head ss).symbol ≡ None → mapped (λ bs. map f xs ++ bs) (loop op item ss) ≡ mapped (λ bs. map f none ++ bs) y → y ≡ got (map f xs) ss
  whole f xs none ss y e n i = from_none f none y e ∙ sym i ∙ mapped_stop op item t (λ bs. map f xs ++ bs) ss n ∙ ap (λ l. got l ss) (append-nil (map f xs))

  pub push_stop : (bs : List B) (ss : List PlacedSym) {k : Out (List B)} → op (head ss).symbol ≡ None → mapped (λ cs. bs ++ cs) (loop op item ss) ≡ k → k ≡ got bs ss
  push_stop bs ss e i = sym i ∙ mapped_stop op item t (λ cs. bs ++ cs) ss e ∙ ap (λ l. got l ss) (append-nil bs)

pub behind_item : {O T B : Type 0} (join : O → T → B) (r : Reads T) (o : O) (ss rest left : List PlacedSym) (t : T) → rest ≡ tail ss → r rest ≡ got t left → behind join r o ss ≡ got (join o t) left
unfolding after
behind_item join r o ss rest left t h g = ap (λ l. mapped (join o) (r l)) (sym h) ∙ ap (mapped (join o)) g

-- the same turn of a loop, where what is read stands in a list that grows at its end
module _ {O T B : Type 0} (op : Sym → Option O) (join : O → T → B) (r : Reads T) (e : op ending ≡ None) (w : Reading r) where
  pub behind_pushed : {X : Type 0} (f : X → B) (xs ys : List X) (x : X) (o : O) (ss rest left : List PlacedSym) (t : T) {k : Out (List B)} → op (head ss).symbol ≡ Some o → rest ≡ tail ss → r rest ≡ got t left → f x ≡ join o t → ys ≡ xs ++ x ∷ [] → mapped (λ bs. map f xs ++ bs) (loop op (behind join r) ss) ≡ k → mapped (λ bs. map f ys ++ bs) (loop op (behind join r) left) ≡ k
  behind_pushed f xs ys x o ss rest left t s h g j y i =
      push_again op (behind join r) (behind_turns op join r e w) f xs ys x o ss left s (behind_item join r o ss rest left t h g ∙ ap (λ b. got b left) (sym j)) y i

-- ---- a list with separators

module _ {B : Type 0} (m : Mark) (r : Reads B) (w : Reading r) where
  pub further_turns : Turns (separator m) (behind (λ _ b. b) r)
  further_turns = behind_turns (separator m) (λ _ b. b) r refl w

  pub further_turn : {C : Type 0} (g : List B → C) (ss rest : List PlacedSym) → sym_is_mark m (head ss).symbol ≡ true → rest ≡ tail ss → mapped g (further_of m r ss) ≡ after (r rest) (λ b left. mapped (λ bs. g (b ∷ bs)) (further_of m r left))
  further_turn g ss rest e h = behind_turn (separator m) (λ _ b. b) r refl w g tt ss rest (rw e) h

  pub further_less : (ss rest left : List PlacedSym) (b : B) → sym_is_mark m (head ss).symbol ≡ true → rest ≡ tail ss → r rest ≡ got b left → length left < length ss
  further_less ss rest left b e h g = behind_less (separator m) (λ _ b. b) r refl w tt ss rest left b (rw e) h g

  pub further_pushed : {X : Type 0} (f : X → B) (xs ys : List X) (x : X) (ss rest left : List PlacedSym) {k : Out (List B)} → sym_is_mark m (head ss).symbol ≡ true → rest ≡ tail ss → r rest ≡ got (f x) left → ys ≡ xs ++ x ∷ [] → mapped (λ bs. map f xs ++ bs) (further_of m r ss) ≡ k → mapped (λ bs. map f ys ++ bs) (further_of m r left) ≡ k
  further_pushed f xs ys x ss rest left e h g y i = behind_pushed (separator m) (λ _ b. b) r refl w f xs ys x tt ss rest left _ (rw e) h g refl y i

  pub further_all : (bs : List B) (ss : List PlacedSym) {k : Out (List B)} → sym_is_mark m (head ss).symbol ≡ false → mapped (λ cs. bs ++ cs) (further_of m r ss) ≡ k → k ≡ got bs ss
  further_all bs ss e i = push_stop (separator m) _ further_turns bs ss (rw e) i

  pub list_within : Reading (list_of m r)
  unfolding list_of
  list_within ss = within_after _ (r ss) _ (w ss) (λ b rest. within_mapped _ _ (further_of m r rest) (loop_within (separator m) _ further_turns rest))

pub idents_within : Reading idents_of
unfolding idents_of
idents_within ss = list_within Comma ident_of ident_within ss
