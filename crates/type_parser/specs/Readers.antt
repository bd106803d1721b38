-- The readers of constants and types, one for each rule of the grammar.
use Rattle.std.specs.Prelude.{ℕ, zero, suc, cond, List, Some, None, Option}
use Rattle.fault.specs.declared.Cause.TheVariants.{Syntax}
use Rattle.symbol.specs.Symbols.{Sym, name, number, character, word, mark, ending}
use Rattle.symbol.specs.declared.mark.Mark.TheVariants.{LeftParen, RightParen, Colon, Semicolon}
use Rattle.symbol.specs.declared.word.Word.TheVariants.{Array, Record, Of, End}
use Rattle.cursor.specs.Kinds.{sym_is_mark, sym_is_word}
use Rattle.cursor.specs.Reading.{Reads, got, fault, after, mapped, head, tail, expect_mark, expect_word, Lex, number_of, idents_of, nested, list_of}
use Rattle.expression_tree.specs.declared.Sign.{Sign}
use Rattle.expression_parser.specs.Classes.{sign, Start, a_number, a_character, a_name, an_opening, a_not, other, start}
use Rattle.type_tree.specs.Trees.{Con, Typ, signed, constant_name, constant_character, named, enumeration, array_of, record_of, secs}

abbrev pub constant_at : Start → Reads Con
constant_at (a_number b) ss = got (signed None (b, (head ss).place)) (tail ss)
constant_at (a_character b) ss = got (constant_character (b, (head ss).place)) (tail ss)
constant_at (a_name b) ss = got (constant_name (b, (head ss).place)) (tail ss)
constant_at an_opening ss = fault Syntax ss
constant_at a_not ss = fault Syntax ss
constant_at other ss = fault Syntax ss

abbrev pub signed_of : Option Sign → Reads Con
signed_of None ss = constant_at (start (head ss).symbol) ss
signed_of (Some g) ss = mapped (signed (Some g)) (number_of (tail ss))

-- constant = ["+"|"-"] number | ident | character
unfoldable pub constant_of : Reads Con
constant_of ss = signed_of (sign (head ss).symbol) ss

-- what a type begins with
pub data Kind : Type 0 where
  of_name : List ℕ → Kind
  of_enumeration of_array of_record of_other : Kind

abbrev pub kind : Sym → Kind
kind (name b) = of_name b
kind (number b) = of_other
kind (character b) = of_other
kind (word w) = cond (sym_is_word Array (word w)) of_array (cond (sym_is_word Record (word w)) of_record of_other)
kind (mark m) = cond (sym_is_mark LeftParen (mark m)) of_enumeration of_other
kind ending = of_other

-- ---- `i` is the reader of types one level deeper, where one is allowed

-- "(" idents ")"
unfoldable pub enumeration_of : Option (Reads Typ) → Reads Typ
enumeration_of i ss = nested i ss (λ _ rest. after (idents_of rest) (λ ns left. mapped (λ _. enumeration (head ss).place ns) (expect_mark RightParen left)))

-- "array" constant ":" constant "of" type
unfoldable pub array_at : Option (Reads Typ) → Reads Typ
array_at i ss =
    nested i ss
    (λ t r0. after (constant_of r0)
    (λ a r1. after (expect_mark Colon r1)
    (λ _ r2. after (constant_of r2)
    (λ b r3. after (expect_word Of r3)
    (λ _ r4. mapped (array_of (head ss).place a b) (t r4))))))

-- idents ":" type
unfoldable pub section_of : Reads Typ → Reads (List Lex × Typ)
section_of t ss = after (idents_of ss) (λ ns rest. after (expect_mark Colon rest) (λ _ left. mapped (λ x. (ns, x)) (t left)))

-- "record" idents ":" type {";" idents ":" type} "end"
unfoldable pub record_at : Option (Reads Typ) → Reads Typ
record_at i ss = nested i ss (λ t rest. after (list_of Semicolon (section_of t) rest) (λ xs left. mapped (λ _. record_of (head ss).place (secs xs)) (expect_word End left)))

abbrev pub type_at : Option (Reads Typ) → Kind → Reads Typ
type_at i (of_name b) ss = got (named (b, (head ss).place)) (tail ss)
type_at i of_enumeration ss = enumeration_of i ss
type_at i of_array ss = array_at i ss
type_at i of_record ss = record_at i ss
type_at i of_other ss = fault Syntax ss

-- type = ident | "(" idents ")" | "array" .. | "record" ..
unfoldable pub type_of : Option (Reads Typ) → Reads Typ
type_of i ss = type_at i (kind (head ss).symbol) ss

-- ---- at an allowance: so many constructs may be open inside

unfoldable pub type_expr_of : ℕ → Reads Typ
type_expr_of zero = type_of None
type_expr_of (suc d) = type_of (Some (type_expr_of d))
