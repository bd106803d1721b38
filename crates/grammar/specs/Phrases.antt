-- What a rule of the grammar is put together from. A phrase says that `ss` begins with its symbols and that `rest` is left behind them.
use Rattle.std.specs.Prelude.{◌≡◌, ℕ, zero, suc, true, List, [], ◌∷◌}
use Rattle.symbol.specs.Symbols.{Sym, PlacedSym}
use Rattle.symbol.specs.Symbols as symbol
use Rattle.symbol.specs.Words.{same_name}
use Rattle.symbol.specs.declared.mark.Mark.{Mark}
use Rattle.symbol.specs.declared.mark.Mark.TheVariants.{Comma}
use Rattle.symbol.specs.declared.word.Word.{Word}
use Rattle.cursor.specs.Reading.{head, Lex}

abbrev pub Phrase : Type 1
Phrase = List PlacedSym → List PlacedSym → Type 0

infix 70 ◌at◌
infixr 20 ◌then◌
-- a symbol at its place
abbrev pub ◌at◌ : Sym → ℕ → PlacedSym
s at k = record { symbol = s; place = k }

-- one phrase and then another
abbrev pub ◌then◌ : Phrase → Phrase → Phrase
(P then Q) ss rest = (mid : List PlacedSym) × P ss mid × Q mid rest

-- no symbol
abbrev pub nothing : Phrase
nothing ss rest = ss ≡ rest

-- not to be written
abbrev pub never : Phrase
never ss rest = ⊥

-- one symbol, at this place, or at any
abbrev pub symbol_at : Sym → ℕ → Phrase
symbol_at s k ss rest = ss ≡ s at k ∷ rest

abbrev pub symbol_of : Sym → Phrase
symbol_of s ss rest = (k : ℕ) × (ss ≡ s at k ∷ rest)

abbrev pub mark : Mark → Phrase
mark m = symbol_of (symbol.mark m)

abbrev pub word : Word → Phrase
word w = symbol_of (symbol.word w)

abbrev pub mark_at : Mark → ℕ → Phrase
mark_at m k = symbol_at (symbol.mark m) k

abbrev pub word_at : Word → ℕ → Phrase
word_at w k = symbol_at (symbol.word w) k

abbrev pub ident : Lex → Phrase
ident n = symbol_at (symbol.name n.0) n.1

abbrev pub number : Lex → Phrase
number n = symbol_at (symbol.number n.0) n.1

abbrev pub character : Lex → Phrase
character n = symbol_at (symbol.character n.0) n.1

-- a name that repeats another
abbrev pub repeats : Lex → Phrase
repeats n ss rest = (b : List ℕ) × (k : ℕ) × (same_name n.0 b ≡ true) × (ss ≡ symbol.name b at k ∷ rest)

-- what begins at this place
abbrev pub begun : ℕ → Phrase → Phrase
begun k P ss rest = (k ≡ (head ss).place) × P ss rest

-- one construct more is open, where one is allowed
abbrev pub deeper : ℕ → (ℕ → Phrase) → Phrase
deeper zero P ss rest = ⊥
deeper (suc d) P ss rest = P d ss rest

-- { item }
abbrev pub repeated : {B : Type 0} → (B → Phrase) → List B → Phrase
repeated P [] = nothing
repeated P (x ∷ xs) = P x then repeated P xs

-- item { mark item }
abbrev pub separated : {B : Type 0} → Mark → (B → Phrase) → List B → Phrase
separated m P [] = never
separated m P (x ∷ xs) = P x then repeated (λ y. mark m then P y) xs

-- idents = ident {"," ident}
abbrev pub idents : List Lex → Phrase
idents = separated Comma ident
