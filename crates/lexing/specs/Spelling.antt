-- What it is to be a symbol, a blank or a comment, said of bytes alone and without a word on how they are read.
use Rattle.std.specs.Prelude.{◌≡◌, ℕ, suc, ◌<◌, ◌≤◌, Bool, true, false, ◌&&◌, List, [], ◌∷◌, map, length, take, Some, ◌≢◌, slice_index}
use Rattle.std.specs.Char.{is_ascii_alphanumeric, is_ascii_alphabetic, to_ascii_lowercase}
use Rattle.symbol.specs.declared.word.Word.{Word}
use Rattle.symbol.specs.Symbols.{Sym, name, number, character, word, mark, ending}
use Rattle.symbol.specs.Words.{word_spelling, mark_spelling}
use Rattle.symbol.specs.Values.{number_value_of, character_value_of}
use Rattle.scanner.specs.Gaps.{blank, allowed, opening, closing, deepest}
use Rattle.scanner.specs.Fronts.{longest_name}

abbrev pub letters_or_digits : List ℕ → Bool
letters_or_digits [] = true
letters_or_digits (b ∷ bs) = is_ascii_alphanumeric b && letters_or_digits bs

-- a letter, then letters or digits, not too many, and no reserved word in capital or small letters
pub record IsName (part : List ℕ) : Type 0 where
  pub first : is_ascii_alphabetic (slice_index part 0) ≡ true
  pub rest : letters_or_digits part ≡ true
  pub short : length part ≤ longest_name
  pub free : (w : Word) → map to_ascii_lowercase part ≢ word_spelling w

-- these bytes are this symbol, written out; the text's end is no symbol of it
abbrev pub Spells : Sym → List ℕ → Type 0
Spells (name part) bs = (bs ≡ part) × IsName part
Spells (number part) bs = (bs ≡ part) × ((v : ℕ) × (number_value_of part ≡ Some v))
Spells (character part) bs = (bs ≡ part) × ((v : ℕ) × (character_value_of part ≡ Some v))
Spells (word w) bs = map to_ascii_lowercase bs ≡ word_spelling w
Spells (mark m) bs = bs ≡ mark_spelling m
Spells ending bs = ⊥

-- No longer beginning of these bytes than the first n is a symbol.
abbrev pub Longest : ℕ → List ℕ → Type 0
Longest n bs = (s : Sym) (m : ℕ) → n < m → m ≤ length bs → Spells s (take m bs) → ⊥

-- What may stand directly behind a symbol: no letter or digit behind those that could have it as a part, and no `*` behind `(`,
-- since the two would open a comment.
abbrev pub Apart : Sym → List ℕ → Type 0
Apart (name part) bs = is_ascii_alphanumeric (slice_index bs 0) ≡ false
Apart (number part) bs = is_ascii_alphanumeric (slice_index bs 0) ≡ false
Apart (character part) bs = is_ascii_alphanumeric (slice_index bs 0) ≡ false
Apart (word w) bs = is_ascii_alphanumeric (slice_index bs 0) ≡ false
Apart (mark x) bs = opening (slice_index (mark_spelling x) 0) (slice_index bs 0) ≡ false
Apart ending bs = Unit {0}

-- Blanks and whole comments: with d comments open before these bytes, none is open behind them.
-- Inside a comment its brackets are taken in pairs from the left.
pub data Gap : ℕ → List ℕ → Type 0 where
  done : Gap 0 []
  blank_then : (b : ℕ) (bs : List ℕ) → blank b ≡ true → Gap 0 bs → Gap 0 (b ∷ bs)
  opens : (d b c : ℕ) (bs : List ℕ) → opening b c ≡ true → d < deepest → Gap (suc d) bs → Gap d (b ∷ c ∷ bs)
  closes : (d b c : ℕ) (bs : List ℕ) → closing b c ≡ true → Gap d bs → Gap (suc d) (b ∷ c ∷ bs)
  inside : (d b : ℕ) (bs : List ℕ) → allowed b ≡ true → opening b (slice_index bs 0) ≡ false → closing b (slice_index bs 0) ≡ false → Gap (suc d) bs → Gap (suc d) (b ∷ bs)
