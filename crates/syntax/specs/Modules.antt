-- The readers of modules, one for each rule of the grammar.
use Rattle.std.specs.Prelude.{ℕ, zero, suc, Bool, true, false, cond, List, [], Some, None, Option}
use Rattle.fault.specs.declared.Cause.TheVariants.{Syntax}
use Rattle.symbol.specs.Symbols.{Sym}
use Rattle.symbol.specs.declared.mark.Mark.TheVariants.{Semicolon}
use Rattle.symbol.specs.declared.word.Word.{Word}
use Rattle.symbol.specs.declared.word.Word.TheVariants as w
use Rattle.cursor.specs.Kinds.{sym_is_word}
use Rattle.cursor.specs.Reading.{Reads, got, fault, after, mapped, head, tail, expect_mark, expect_word, Lex, ident_of, idents_of, nested, loop}
use Rattle.syntax.specs.StatementTrees.{stmts}
use Rattle.syntax.specs.ProgramTrees.{Head, heading, Modul, whole, Decl, a_part, a_procedure, a_module, decls}
use Rattle.syntax.specs.declared.PartKind.TheVariants as part
use Rattle.syntax.specs.declared.DeclarationKind.{DeclarationKind}
use Rattle.syntax.specs.declared.DeclarationKind.TheVariants as kind
use Rattle.syntax.specs.Declarations.{part_reader}
use Rattle.syntax.specs.Procedures.{procedure_of, body_of, closing_of}

-- the word that opens a module, and whether it is a device module's
abbrev pub opening : Sym → Option Bool
opening s = cond (sym_is_word w.Device s) (Some true) (cond (sym_is_word w.Module s) (Some false) None)

abbrev pub declaration_kind : Sym → Option DeclarationKind
declaration_kind s =
    cond (sym_is_word w.Const s) (Some (kind.Part part.Constants))
    (cond (sym_is_word w.Type s) (Some (kind.Part part.Types))
    (cond (sym_is_word w.Var s) (Some (kind.Part part.Variables))
    (cond (sym_is_word w.Procedure s) (Some kind.Procedure)
    (cond (sym_is_word w.Device s) (Some kind.Module)
    (cond (sym_is_word w.Module s) (Some kind.Module) None)))))

-- [word idents ";"]
unfoldable pub names_of : Word → Reads (List Lex)
names_of v ss = cond (sym_is_word v (head ss).symbol) (after (idents_of (tail ss)) (λ ns rest. mapped (λ _. ns) (expect_mark Semicolon rest))) (got [] ss)

-- "module" behind "device"
unfoldable pub module_word_of : Bool → Reads (Unit {0})
module_word_of device ss = cond device (expect_word w.Module ss) (got tt ss)

-- ["device"] "module" ident ";" ["define" idents ";"] ["use" idents ";"], behind the first word, whose place is k
unfoldable pub heading_of : ℕ → Bool → Reads Head
heading_of k device ss =
    after (module_word_of device ss)
    (λ _ r0. after (ident_of r0)
    (λ n r1. after (expect_mark Semicolon r1)
    (λ _ r2. after (names_of w.Define r2)
    (λ ds r3. mapped (λ us. heading k device n ds us) (names_of w.Use r3)))))

abbrev pub name_of : Head → Lex
name_of (heading k device n ds us) = n

-- ---- a level: the allowance for what is no module, and the reader of modules there

abbrev pub Level : Type 0
Level = ℕ × Reads Modul

-- part | procedure ";" | module ";"
abbrev pub declaration_of : Level → DeclarationKind → Reads Decl
declaration_of l (kind.Part k) ss = mapped a_part (part_reader l.0 k ss)
declaration_of l kind.Procedure ss = after (procedure_of l.0 ss) (λ p rest. mapped (λ _. a_procedure p) (expect_mark Semicolon rest))
declaration_of l kind.Module ss = after (l.1 ss) (λ m rest. mapped (λ _. a_module m) (expect_mark Semicolon rest))

unfoldable pub declarations_of : Level → Reads (List Decl)
declarations_of l = loop declaration_kind (declaration_of l)

abbrev pub module_at : Option Level → Option Bool → Reads Modul
module_at i None ss = fault Syntax ss
module_at i (Some device) ss =
    nested i ss
    (λ l r0. after (heading_of (head ss).place device r0)
    (λ h r1. after (declarations_of l r1)
    (λ ds r2. after (body_of l.0 r2)
    (λ b r3. mapped (λ _. whole h (decls ds) (stmts b)) (closing_of (name_of h) r3)))))

-- module = heading {part | procedure ";" | module ";"} body ident
unfoldable pub module_of : Option Level → Reads Modul
module_of i ss = module_at i (opening (head ss).symbol) ss

-- ---- at an allowance: so many constructs may be open inside

unfoldable pub module_for : ℕ → Reads Modul
module_for zero = module_of None
module_for (suc d) = module_of (Some (d, module_for d))

abbrev pub level : ℕ → Level
level d = (d, module_for d)
