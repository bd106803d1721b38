-- How a grammar is read: what a reader answers, and how readers are put together. A reader goes over the list of the unread symbols.
use Rattle.std.specs.Prelude.{ℕ, zero, suc, Bool, cond, List, [], ◌∷◌, length, Some, None, Option}
use Rattle.fault.specs.declared.Cause.{Cause}
use Rattle.fault.specs.declared.Cause.TheVariants.{Syntax, TooDeep}
use Rattle.symbol.specs.Symbols.{Sym, name, number, character, word, mark, ending, PlacedSym}
use Rattle.symbol.specs.declared.word.Word.{Word}
use Rattle.symbol.specs.declared.mark.Mark.{Mark}
use Rattle.symbol.specs.declared.mark.Mark.TheVariants.{Comma}
use Rattle.cursor.specs.Kinds.{sym_is_mark, sym_is_word}

-- what was read and what is left, or a fault and what begins where it is
pub data Out (T : Type 0) : Type 0 where
  got : T → List PlacedSym → Out T
  fault : Cause → List PlacedSym → Out T

abbrev pub Reads : Type 0 → Type 0
Reads T = List PlacedSym → Out T

-- one reader behind another; the first fault is the whole's
unfoldable pub after : {A B : Type 0} → Out A → (A → Reads B) → Out B
after (got a rest) k = k a rest
after (fault c rest) k = fault c rest

-- the same, where nothing more is read
abbrev pub mapped : {A B : Type 0} → (A → B) → Out A → Out B
mapped f o = after o (λ a rest. got (f a) rest)

-- the first symbol, and what is left behind it. Past the last symbol all is the end.
unfoldable pub head : List PlacedSym → PlacedSym
head [] = record { symbol = ending; place = 0 }
head (s ∷ ss) = s

unfoldable pub tail : List PlacedSym → List PlacedSym
tail [] = []
tail (s ∷ ss) = ss

-- ---- one symbol

-- the symbol that must come here
unfoldable pub expect : (Sym → Bool) → Reads (Unit {0})
expect is ss = cond (is (head ss).symbol) (got tt (tail ss)) (fault Syntax ss)

abbrev pub expect_mark : Mark → Reads (Unit {0})
expect_mark m = expect (sym_is_mark m)

abbrev pub expect_word : Word → Reads (Unit {0})
expect_word w = expect (sym_is_word w)

-- nothing more
unfoldable pub expect_end : Reads (Unit {0})
expect_end [] = got tt []
expect_end (s ∷ ss) = fault Syntax (s ∷ ss)

-- a part of the text and its place
abbrev pub Lex : Type 0
Lex = List ℕ × ℕ

abbrev pub name_in : Sym → Option (List ℕ)
name_in (name b) = Some b
name_in (number b) = None
name_in (character b) = None
name_in (word w) = None
name_in (mark m) = None
name_in ending = None

abbrev pub number_in : Sym → Option (List ℕ)
number_in (name b) = None
number_in (number b) = Some b
number_in (character b) = None
number_in (word w) = None
number_in (mark m) = None
number_in ending = None

abbrev pub lexeme_at : Option (List ℕ) → Reads Lex
lexeme_at None ss = fault Syntax ss
lexeme_at (Some b) ss = got (b, (head ss).place) (tail ss)

unfoldable pub ident_of : Reads Lex
ident_of ss = lexeme_at (name_in (head ss).symbol) ss

unfoldable pub number_of : Reads Lex
number_of ss = lexeme_at (number_in (head ss).symbol) ss

-- ---- what opens one level more, at its first symbol

-- the reader of what is nested one level deeper, where a level is left
unfoldable pub inner : {F : Type 0} → (ℕ → F) → ℕ → Option F
inner r zero = None
inner r (suc d) = Some (r d)

-- the symbol that opens, and what `k` reads behind it
abbrev pub nested : {F T : Type 0} → Option F → List PlacedSym → (F → Reads T) → Out T
nested None ss k = fault TooDeep ss
nested (Some f) ss k = k f (tail ss)

-- ---- what may be repeated

-- `{ item }`: the symbol tells whether one more begins, and which. The number bounds the turns.
module _ {O B : Type 0} (op : Sym → Option O) (item : O → Reads B) where
  -- one turn, and `next` for the turns behind it
  abbrev pub turn : Reads (List B) → List PlacedSym → Option O → Out (List B)
  turn next ss None = got [] ss
  turn next ss (Some o) = after (item o ss) (λ b rest. mapped (λ bs. b ∷ bs) (next rest))

  unfoldable pub many : ℕ → Reads (List B)
  many zero ss = got [] ss
  many (suc n) ss = turn (many n) ss (op (head ss).symbol)

  -- as many turns as there can be: each reads a symbol
  unfoldable pub loop : Reads (List B)
  loop ss = many (suc (length ss)) ss

-- an item that stands behind the symbol which tells that it comes
abbrev pub behind : {O T B : Type 0} → (O → T → B) → Reads T → O → Reads B
behind join r o ss = mapped (join o) (r (tail ss))

abbrev pub paired : {O T : Type 0} → O → T → O × T
paired o t = (o, t)

abbrev pub separator : Mark → Sym → Option (Unit {0})
separator m s = cond (sym_is_mark m s) (Some tt) None

-- `{ mark item }`
abbrev pub further_of : {B : Type 0} → Mark → Reads B → Reads (List B)
further_of m r = loop (separator m) (behind (λ _ b. b) r)

-- `item { mark item }`
unfoldable pub list_of : {B : Type 0} → Mark → Reads B → Reads (List B)
list_of m r ss = after (r ss) (λ b rest. mapped (λ bs. b ∷ bs) (further_of m r rest))

-- idents = ident {"," ident}
unfoldable pub idents_of : Reads (List Lex)
idents_of = list_of Comma ident_of
