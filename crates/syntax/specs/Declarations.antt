-- The readers of parts, one for each rule of the grammar. `d` constructs may be open inside.
use Rattle.std.specs.Prelude.{ℕ, cond, List, ◌∷◌, Some, None, Option}
use Rattle.symbol.specs.Symbols.{Sym}
use Rattle.symbol.specs.declared.mark.Mark.TheVariants.{Equal, LeftBracket, RightBracket, Colon, Semicolon, Comma}
use Rattle.symbol.specs.declared.word.Word.TheVariants as w
use Rattle.cursor.specs.Kinds.{sym_is_mark, sym_is_word, sym_is_name}
use Rattle.cursor.specs.Reading.{Reads, after, mapped, head, tail, expect_mark, Lex, ident_of, number_of, inner, nested, loop, further_of}
use Rattle.type_tree.specs.Trees.{Con, Typ}
use Rattle.type_parser.specs.Readers.{constant_of, type_expr_of}
use Rattle.syntax.specs.ProgramTrees.{Variables, variables, register, Parted, constants, types, declared}
use Rattle.syntax.specs.declared.PartKind.{PartKind}
use Rattle.syntax.specs.declared.PartKind.TheVariants as kind

-- a declaration begins with a name
abbrev pub naming : Sym → Option (Unit {0})
naming s = cond (sym_is_name s) (Some tt) None

-- ident "=" constant ";"
unfoldable pub constant_declaration_of : Reads (Lex × Con)
constant_declaration_of ss =
    after (ident_of ss)
    (λ n r1. after (expect_mark Equal r1)
    (λ _ r2. after (constant_of r2)
    (λ c r3. mapped (λ _. (n, c)) (expect_mark Semicolon r3))))

unfoldable pub constants_of : Reads (List (Lex × Con))
constants_of = loop naming (λ _. constant_declaration_of)

-- ident "=" type ";"
unfoldable pub type_declaration_of : ℕ → Reads (Lex × Typ)
type_declaration_of d ss =
    after (ident_of ss)
    (λ n r1. after (expect_mark Equal r1)
    (λ _ r2. after (type_expr_of d r2)
    (λ t r3. mapped (λ _. (n, t)) (expect_mark Semicolon r3))))

unfoldable pub types_of : ℕ → Reads (List (Lex × Typ))
types_of d = loop naming (λ _. type_declaration_of d)

-- "[" number "]" ":" type ";" behind a name
abbrev pub register_of : ℕ → Lex → Reads Variables
register_of d n ss =
    nested (inner (λ e. e) d) ss
    (λ _ r1. after (number_of r1)
    (λ a r2. after (expect_mark RightBracket r2)
    (λ _ r3. after (expect_mark Colon r3)
    (λ _ r4. after (type_expr_of d r4)
    (λ t r5. mapped (λ _. register n a t) (expect_mark Semicolon r5))))))

-- {"," ident} ":" type ";" behind a name
abbrev pub variables_after : ℕ → Lex → Reads Variables
variables_after d n ss =
    after (mapped (λ ns. n ∷ ns) (further_of Comma ident_of ss))
    (λ ns r1. after (expect_mark Colon r1)
    (λ _ r2. after (type_expr_of d r2)
    (λ t r3. mapped (λ _. variables ns t) (expect_mark Semicolon r3))))

-- (idents | ident "[" number "]") ":" type ";"
unfoldable pub variable_declaration_of : ℕ → Reads Variables
variable_declaration_of d ss = after (ident_of ss) (λ n rest. cond (sym_is_mark LeftBracket (head rest).symbol) (register_of d n rest) (variables_after d n rest))

unfoldable pub variable_list_of : ℕ → Reads (List Variables)
variable_list_of d = loop naming (λ _. variable_declaration_of d)

abbrev pub part_kind : Sym → Option PartKind
part_kind s =
    cond (sym_is_word w.Const s) (Some kind.Constants)
    (cond (sym_is_word w.Type s) (Some kind.Types)
    (cond (sym_is_word w.Var s) (Some kind.Variables) None))

abbrev pub part_at : ℕ → PartKind → Reads Parted
part_at d kind.Constants rest = mapped constants (constants_of rest)
part_at d kind.Types rest = mapped types (types_of d rest)
part_at d kind.Variables rest = mapped declared (variable_list_of d rest)

-- part = "const" {..} | "type" {..} | "var" {..}, from its word on
unfoldable pub part_reader : ℕ → PartKind → Reads Parted
part_reader d k ss = part_at d k (tail ss)

unfoldable pub parts_of : ℕ → Reads (List Parted)
parts_of d = loop part_kind (part_reader d)
