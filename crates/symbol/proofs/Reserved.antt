-- What it says that a word is reserved or not. Assumes nothing.
use Rattle.std.proofs.Common.{◌≡◌, ℕ, Bool, true, false, cond, ◌||◌, List, [], ◌∷◌, map, Some, None, Option, sym, ap, refl, rules, ◌∙◌}
use Rattle.std.specs.Char.{to_ascii_lowercase}
use Rattle.std.proofs.lemmas.Slice.Eq.{bytes_eq-Decides}
use Rattle.std.specs.List.{list_any, find}
use denote.Enum.Bare.{sameb, same_true}
use Rattle.symbol.specs.contracts.word.Word.{the_type}
use Rattle.symbol.specs.declared.word.Word.{Word}
use Rattle.symbol.specs.Words.{same_name, word_spelling, words, reserved, Reserves}

-- the spellings are in small letters
pub spelling_small : (x : Word) → map to_ascii_lowercase (word_spelling x) ≡ word_spelling x
spelling_small x = search rules

-- every word is among the words
listed : (x : Word) → list_any (sameb the_type x) words ≡ true
listed x = search rules

module _ (p : Word → Bool) (x : Word) where
  -- what is found passes the test
  find_passes : (ys : List Word) → find p ys ≡ Some x → p x ≡ true
  find_passes [] e = cc
  find_passes (y ∷ ys) e = go (p y) refl e (find_passes ys)
    where
      go : (t : Bool) → p y ≡ t → cond t (Some y) (find p ys) ≡ Some x → (find p ys ≡ Some x → p x ≡ true) → p x ≡ true
      go true f g more = cc
      go false f g more = more g

  -- where it is not found at the head
  other : (t : Bool) (y : Word) (r : Option Word) → cond t (Some y) r ≡ None → r ≡ None
  other true y r e = cc
  other false y r e = e

  -- where nothing is found, no word of the list passes it
  find_misses : (ys : List Word) → list_any (sameb the_type x) ys ≡ true → p x ≡ true → find p ys ≡ None → ⊥
  find_misses [] a e n = cc
  find_misses (y ∷ ys) a e n = go (sameb the_type x y) refl a (λ b k. find_misses ys b e k)
    where
      go : (t : Bool) → sameb the_type x y ≡ t → (t || list_any (sameb the_type x) ys) ≡ true → (list_any (sameb the_type x) ys ≡ true → find p ys ≡ None → ⊥) → ⊥
      go true f b more =
          let passes : p y ≡ true = ap p (sym (same_true the_type (search rules) x y f)) ∙ e in
          let found : find p (y ∷ ys) ≡ Some y = rw passes in
          cc
      go false f b more = more b (other (p y) y _ n)

pub reserves : (bs : List ℕ) (o : Option Word) → o ≡ reserved bs → Reserves bs o
reserves bs (Some x) e = (bytes_eq-Decides (map to_ascii_lowercase bs) (map to_ascii_lowercase (word_spelling x))).0 (find_passes (λ y. same_name bs (word_spelling y)) x words (sym e)) ∙ spelling_small x
reserves bs None e = λ x s. find_misses (λ y. same_name bs (word_spelling y)) x words (listed x) ((bytes_eq-Decides (map to_ascii_lowercase bs) (map to_ascii_lowercase (word_spelling x))).1 (s ∙ sym (spelling_small x))) (sym e)
