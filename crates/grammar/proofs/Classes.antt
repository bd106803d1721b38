-- Each class of symbols has the symbols that the grammar names. Assumes nothing.
use Rattle.std.proofs.Common.{◌≡◌, ℕ, Bool, true, false, cond, List, ◌∷◌, Some, None, Option, refl, ap, ◌∙◌, arith}
use Rattle.std.proofs.lemmas.Bool.Decides.{nat_tests}
use Rattle.symbol.specs.Symbols.{Sym, PlacedSym}
use Rattle.symbol.specs.Symbols as symbol
use Rattle.symbol.specs.declared.mark.Mark.TheVariants as m
use Rattle.symbol.specs.declared.word.Word.TheVariants as w
use Rattle.cursor.specs.Kinds.{sym_is_mark, sym_is_word}
use Rattle.cursor.specs.Reading.{head, tail}
use Rattle.expression_tree.specs.declared.Relation.{Relation}
use Rattle.expression_tree.specs.declared.Sign.{Sign}
use Rattle.expression_tree.specs.declared.Adding.{Adding}
use Rattle.expression_tree.specs.declared.Multiplying.{Multiplying}
use Rattle.expression_parser.specs.Classes.{relation, sign, adding, multiplying, start, a_number, a_character, a_name, an_opening, a_not, selecting, by_field, by_index}
use Rattle.grammar.specs.Phrases.{◌at◌, symbol_of}
use Rattle.grammar.specs.Expressions.{relation_sym, sign_sym, adding_sym, multiplying_sym}
use Rattle.grammar.proofs.Holding.{starts, mark_is, word_is}

-- a chain of tests: the first that holds is the answer
picks : {T : Type 0} (b : Bool) (x y : Option T) (o : T) {R : Type 0} → cond b x y ≡ Some o → (b ≡ true → x ≡ Some o → R) → (y ≡ Some o → R) → R
picks true x y o e h k = h refl e
picks false x y o e h k = k e

same : {T : Type 0} (a b : T) → ◌≡◌ {A = Option T} (Some a) (Some b) → a ≡ b
same a b e = cc

none : {T : Type 0} {R : Type 0} (o : T) → ◌≡◌ {A = Option T} None (Some o) → R
none o e = absurd (grind arith)

relation_is : (s : Sym) (o : Relation) → relation s ≡ Some o → s ≡ relation_sym o
relation_is s o e =
    picks (sym_is_mark m.Equal s) _ _ o e (λ b q. mark_is m.Equal s b ∙ ap relation_sym (same _ o q))
    (λ e. picks (sym_is_mark m.NotEqual s) _ _ o e (λ b q. mark_is m.NotEqual s b ∙ ap relation_sym (same _ o q))
    (λ e. picks (sym_is_mark m.Less s) _ _ o e (λ b q. mark_is m.Less s b ∙ ap relation_sym (same _ o q))
    (λ e. picks (sym_is_mark m.LessEqual s) _ _ o e (λ b q. mark_is m.LessEqual s b ∙ ap relation_sym (same _ o q))
    (λ e. picks (sym_is_mark m.Greater s) _ _ o e (λ b q. mark_is m.Greater s b ∙ ap relation_sym (same _ o q))
    (λ e. picks (sym_is_mark m.GreaterEqual s) _ _ o e (λ b q. mark_is m.GreaterEqual s b ∙ ap relation_sym (same _ o q)) (none o))))))

sign_is : (s : Sym) (o : Sign) → sign s ≡ Some o → s ≡ sign_sym o
sign_is s o e =
    picks (sym_is_mark m.Plus s) _ _ o e (λ b q. mark_is m.Plus s b ∙ ap sign_sym (same _ o q))
    (λ e. picks (sym_is_mark m.Minus s) _ _ o e (λ b q. mark_is m.Minus s b ∙ ap sign_sym (same _ o q)) (none o))

adding_is : (s : Sym) (o : Adding) → adding s ≡ Some o → s ≡ adding_sym o
adding_is s o e =
    picks (sym_is_mark m.Plus s) _ _ o e (λ b q. mark_is m.Plus s b ∙ ap adding_sym (same _ o q))
    (λ e. picks (sym_is_mark m.Minus s) _ _ o e (λ b q. mark_is m.Minus s b ∙ ap adding_sym (same _ o q))
    (λ e. picks (sym_is_word w.Or s) _ _ o e (λ b q. word_is w.Or s b ∙ ap adding_sym (same _ o q))
    (λ e. picks (sym_is_word w.Xor s) _ _ o e (λ b q. word_is w.Xor s b ∙ ap adding_sym (same _ o q)) (none o))))

multiplying_is : (s : Sym) (o : Multiplying) → multiplying s ≡ Some o → s ≡ multiplying_sym o
multiplying_is s o e =
    picks (sym_is_mark m.Times s) _ _ o e (λ b q. mark_is m.Times s b ∙ ap multiplying_sym (same _ o q))
    (λ e. picks (sym_is_mark m.Slash s) _ _ o e (λ b q. mark_is m.Slash s b ∙ ap multiplying_sym (same _ o q))
    (λ e. picks (sym_is_word w.Div s) _ _ o e (λ b q. word_is w.Div s b ∙ ap multiplying_sym (same _ o q))
    (λ e. picks (sym_is_word w.Mod s) _ _ o e (λ b q. word_is w.Mod s b ∙ ap multiplying_sym (same _ o q))
    (λ e. picks (sym_is_word w.And s) _ _ o e (λ b q. word_is w.And s b ∙ ap multiplying_sym (same _ o q)) (none o)))))

-- ---- what a list of symbols begins with

pub starts_relation : (o : Relation) (ss : List PlacedSym) → relation (head ss).symbol ≡ Some o → symbol_of (relation_sym o) ss (tail ss)
starts_relation o ss e = ((head ss).place, starts ss (relation_sym o) (relation_is _ o e) (λ z. grind arith))

pub starts_sign : (o : Sign) (ss : List PlacedSym) → sign (head ss).symbol ≡ Some o → symbol_of (sign_sym o) ss (tail ss)
starts_sign o ss e = ((head ss).place, starts ss (sign_sym o) (sign_is _ o e) (λ z. grind arith))

pub starts_adding : (o : Adding) (ss : List PlacedSym) → adding (head ss).symbol ≡ Some o → symbol_of (adding_sym o) ss (tail ss)
starts_adding o ss e = ((head ss).place, starts ss (adding_sym o) (adding_is _ o e) (λ z. grind arith))

pub starts_multiplying : (o : Multiplying) (ss : List PlacedSym) → multiplying (head ss).symbol ≡ Some o → symbol_of (multiplying_sym o) ss (tail ss)
starts_multiplying o ss e = ((head ss).place, starts ss (multiplying_sym o) (multiplying_is _ o e) (λ z. grind arith))

pub starts_field : (ss : List PlacedSym) → selecting (head ss).symbol ≡ Some by_field → sym_is_mark m.Dot (head ss).symbol ≡ true
starts_field ss e = grind (arith, nat_tests)

pub starts_index : (ss : List PlacedSym) → selecting (head ss).symbol ≡ Some by_index → sym_is_mark m.LeftBracket (head ss).symbol ≡ true
starts_index ss e = grind (arith, nat_tests)

number_is : (s : Sym) (b : List ℕ) → start s ≡ a_number b → s ≡ symbol.number b
number_is s b e = grind (arith, nat_tests)

character_is : (s : Sym) (b : List ℕ) → start s ≡ a_character b → s ≡ symbol.character b
character_is s b e = grind (arith, nat_tests)

name_is : (s : Sym) (b : List ℕ) → start s ≡ a_name b → s ≡ symbol.name b
name_is s b e = grind (arith, nat_tests)

pub starts_number : (b : List ℕ) (ss : List PlacedSym) → start (head ss).symbol ≡ a_number b → ss ≡ symbol.number b at (head ss).place ∷ tail ss
starts_number b ss e = starts ss (symbol.number b) (number_is _ b e) (λ z. grind arith)

pub starts_character : (b : List ℕ) (ss : List PlacedSym) → start (head ss).symbol ≡ a_character b → ss ≡ symbol.character b at (head ss).place ∷ tail ss
starts_character b ss e = starts ss (symbol.character b) (character_is _ b e) (λ z. grind arith)

pub starts_name : (b : List ℕ) (ss : List PlacedSym) → start (head ss).symbol ≡ a_name b → ss ≡ symbol.name b at (head ss).place ∷ tail ss
starts_name b ss e = starts ss (symbol.name b) (name_is _ b e) (λ z. grind arith)

pub opening_is : (s : Sym) → start s ≡ an_opening → sym_is_mark m.LeftParen s ≡ true
opening_is s e = grind (arith, nat_tests)

pub not_is : (s : Sym) → start s ≡ a_not → sym_is_word w.Not s ≡ true
not_is s e = grind (arith, nat_tests)
