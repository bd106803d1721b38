-- Every declaration, every module and every program of the grammar is read back. Assumes nothing.
use Rattle.std.proofs.Common.{◌≡◌, ℕ, zero, suc, Bool, true, false, cond, List, [], ◌∷◌, Some, None, Option, sym, refl, ap, ◌∙◌}
use Rattle.fault.specs.declared.Cause.TheVariants.{Syntax}
use Rattle.symbol.specs.Symbols.{Sym, PlacedSym}
use Rattle.symbol.specs.Symbols as symbol
use Rattle.symbol.specs.declared.mark.Mark.TheVariants as m
use Rattle.symbol.specs.declared.word.Word.{Word}
use Rattle.symbol.specs.declared.word.Word.TheVariants as w
use Rattle.cursor.specs.Kinds.{sym_is_mark, sym_is_word}
use Rattle.cursor.specs.Reading.{got, fault, after, mapped, head, tail, Lex, ident_of, idents_of, number_of, inner, list_of, expect_end}
use Rattle.cursor.proofs.Loops.{ident_within}
use Rattle.type_tree.specs.Trees.{Con, Typ}
use Rattle.syntax.specs.StatementTrees.{Stmts, stmts}
use Rattle.syntax.specs.declared.Marking.{Marking}
use Rattle.syntax.specs.declared.Marking.TheVariants as marked
use Rattle.syntax.specs.ProgramTrees.{Variables, Parted, Section, Proc, Modul, Decl, Decls, decls}
use Rattle.syntax.specs.ProgramTrees as tree
use Rattle.syntax.specs.declared.PartKind.{PartKind}
use Rattle.syntax.specs.declared.PartKind.TheVariants as part
use Rattle.syntax.specs.declared.DeclarationKind.{DeclarationKind}
use Rattle.syntax.specs.declared.DeclarationKind.TheVariants as declaration
use Rattle.syntax.specs.Declarations.{naming, constant_declaration_of, constants_of, type_declaration_of, types_of, register_of, variables_after, variable_declaration_of, variable_list_of, part_kind, part_reader, parts_of}
use Rattle.syntax.specs.Procedures.{marking, unmarked, section_from, formals_section_of, formals_of, result_of, body_of, closing_of, procedure_of}
use Rattle.syntax.specs.Modules.{declaration_kind, names_of, module_word_of, heading_of, declaration_of, declarations_of, module_of, module_for, level}
use Rattle.syntax.specs.Modules as reader
use Rattle.syntax.specs.Program.{deepest, program_of}
use Rattle.syntax.proofs.ProgramsWithin.{constant_turns, type_turns, variable_turns, part_turns, section_within, declaration_turns, module_falls}
use Rattle.grammar.specs.Phrases.{◌at◌, ◌then◌, mark, ident, repeats, repeated, idents}
use Rattle.grammar.specs.Modules.{ConstantR, TypeR, VariablesR, PartR, MarkingR, SectionR, FormalsR, ResultR, BodyR, ProcR, NamesR, HeadR, ModulR, DeclR, DeclsR, Sentence}
use Rattle.grammar.specs.Stops.{StopB}
use Rattle.grammar.proofs.Lists.{stmt_list, stmts_back, decl_list, decls_back}
use Rattle.grammar.proofs.Steps.{on, first, first_at, same_first, left_of, word_same, mark_read, word_read, ident_read, number_read, idents_read, further_read, separated_read, repeated_read, stops, turns}
use Rattle.grammar.proofs.CompleteTypes.{constant_complete, type_complete}
use Rattle.grammar.proofs.CompleteStatements.{stop_end, optional_first, optional_complete}

-- ---- parts

constant_read : (x : Lex × Con) (ss rest : List PlacedSym) → ConstantR x ss rest → constant_declaration_of ss ≡ got x rest
unfolding constant_declaration_of
constant_read x ss rest h =
    on _ (ident_read x.0 ss h.0 h.1)
    (on _ (mark_read m.Equal h.0 h.2.0 h.2.1)
    (on _ (constant_complete x.1 h.2.0 h.2.2.0 h.2.2.1) (on _ (mark_read m.Semicolon h.2.2.0 rest h.2.2.2) refl)))

constants_complete : (xs : List (Lex × Con)) (ss rest : List PlacedSym) → repeated ConstantR xs ss rest → naming (head rest).symbol ≡ None → constants_of ss ≡ got xs rest
unfolding constants_of
constants_complete xs ss rest h e =
    repeated_read naming (λ _. constant_declaration_of) constant_turns ConstantR (λ _. Unit {0}) (λ b l mid q. tt)
    (λ b l mid q _. (tt, first_at (λ s. naming s ≡ Some tt) q.1 refl, constant_read b l mid q)) xs ss rest h tt e

type_read : (d : ℕ) (x : Lex × Typ) (ss rest : List PlacedSym) → TypeR d x ss rest → type_declaration_of d ss ≡ got x rest
unfolding type_declaration_of
type_read d x ss rest h =
    on _ (ident_read x.0 ss h.0 h.1)
    (on _ (mark_read m.Equal h.0 h.2.0 h.2.1)
    (on _ (type_complete x.1 d h.2.0 h.2.2.0 h.2.2.1) (on _ (mark_read m.Semicolon h.2.2.0 rest h.2.2.2) refl)))

types_complete_lem : (d : ℕ) (xs : List (Lex × Typ)) (ss rest : List PlacedSym) → repeated (TypeR d) xs ss rest → naming (head rest).symbol ≡ None → types_of d ss ≡ got xs rest
unfolding types_of
types_complete_lem d xs ss rest h e =
    repeated_read naming (λ _. type_declaration_of d) (type_turns d) (TypeR d) (λ _. Unit {0}) (λ b l mid q. tt)
    (λ b l mid q _. (tt, first_at (λ s. naming s ≡ Some tt) q.1 refl, type_read d b l mid q)) xs ss rest h tt e

-- behind a name in a list stands a comma, or what follows the list
commas_first : (P : Sym → Type 0) → P (symbol.mark m.Comma) → (ns : List Lex) (ss rest : List PlacedSym) → repeated (λ n. mark m.Comma then ident n) ns ss rest → P (head rest).symbol → P (head ss).symbol
commas_first P q [] ss rest h p = same_first P h p
commas_first P q (n ∷ ns) ss rest h p = first P h.1.1 q

variables_read : (d : ℕ) (x : Variables) (ss rest : List PlacedSym) → VariablesR d x ss rest → variable_declaration_of d ss ≡ got x rest
unfolding variable_declaration_of inner
variables_read d (tree.variables [] t) ss rest h = absurd h.1
variables_read d (tree.variables (n ∷ ns) t) ss rest h =
    on _ (ident_read n ss h.1.0 h.1.1)
    (ap (λ b. cond b (register_of d n h.1.0) (variables_after d n h.1.0)) (commas_first (λ s. sym_is_mark m.LeftBracket s ≡ false) refl ns h.1.0 h.0 h.1.2 (first (λ s. sym_is_mark m.LeftBracket s ≡ false) h.2.1 refl))
    ∙ on _ (on _ (further_read m.Comma ident_of ident_within ident (λ _. Unit {0}) tt (λ c l mid q _. ident_read c l mid q) ns h.1.0 h.0 h.1.2 tt (first (λ s. sym_is_mark m.Comma s ≡ false) h.2.1 refl)) refl)
    (on _ (mark_read m.Colon h.0 h.2.0 h.2.1)
    (on _ (type_complete t d h.2.0 h.2.2.0 h.2.2.1) (on _ (mark_read m.Semicolon h.2.2.0 rest h.2.2.2) refl))))
variables_read zero (tree.register n a t) ss rest h = absurd h.2.2.1
variables_read (suc d) (tree.register n a t) ss rest h =
    on _ (ident_read n ss h.0 h.1)
    (ap (λ b. cond b (register_of (suc d) n h.0) (variables_after (suc d) n h.0)) (first (λ s. sym_is_mark m.LeftBracket s ≡ true) h.2.1 refl)
    ∙ on _ (ap number_of (left_of h.2.1) ∙ number_read a h.2.0 h.2.2.1.0 h.2.2.1.1)
    (on _ (mark_read m.RightBracket h.2.2.1.0 h.2.2.0 h.2.2.1.2)
    (on _ (mark_read m.Colon h.2.2.0 h.2.2.2.0 h.2.2.2.1)
    (on _ (type_complete t (suc d) h.2.2.2.0 h.2.2.2.2.0 h.2.2.2.2.1) (on _ (mark_read m.Semicolon h.2.2.2.2.0 rest h.2.2.2.2.2) refl)))))

variables_name : (d : ℕ) (x : Variables) (ss rest : List PlacedSym) → VariablesR d x ss rest → naming (head ss).symbol ≡ Some tt
variables_name d (tree.variables [] t) ss rest h = absurd h.1
variables_name d (tree.variables (n ∷ ns) t) ss rest h = first_at (λ s. naming s ≡ Some tt) h.1.1 refl
variables_name d (tree.register n a t) ss rest h = first_at (λ s. naming s ≡ Some tt) h.1 refl

variables_complete : (d : ℕ) (xs : List Variables) (ss rest : List PlacedSym) → repeated (VariablesR d) xs ss rest → naming (head rest).symbol ≡ None → variable_list_of d ss ≡ got xs rest
unfolding variable_list_of
variables_complete d xs ss rest h e =
    repeated_read naming (λ _. variable_declaration_of d) (variable_turns d) (VariablesR d) (λ _. Unit {0}) (λ b l mid q. tt)
    (λ b l mid q _. (tt, variables_name d b l mid q, variables_read d b l mid q)) xs ss rest h tt e

abbrev kind_of : Parted → PartKind
kind_of (tree.constants xs) = part.Constants
kind_of (tree.types xs) = part.Types
kind_of (tree.declared xs) = part.Variables

part_first : (P : Sym → Type 0) → P (symbol.word w.Const) → P (symbol.word w.Type) → P (symbol.word w.Var) → (d : ℕ) (x : Parted) (ss rest : List PlacedSym) → PartR d x ss rest → P (head ss).symbol
part_first P a b c d (tree.constants xs) ss rest h = first P h.1 a
part_first P a b c d (tree.types xs) ss rest h = first P h.1 b
part_first P a b c d (tree.declared xs) ss rest h = first P h.1 c

part_told : (d : ℕ) (x : Parted) (ss rest : List PlacedSym) → PartR d x ss rest → part_kind (head ss).symbol ≡ Some (kind_of x)
part_told d (tree.constants xs) ss rest h = first (λ s. part_kind s ≡ Some part.Constants) h.1 refl
part_told d (tree.types xs) ss rest h = first (λ s. part_kind s ≡ Some part.Types) h.1 refl
part_told d (tree.declared xs) ss rest h = first (λ s. part_kind s ≡ Some part.Variables) h.1 refl

part_declared : (d : ℕ) (x : Parted) (ss rest : List PlacedSym) → PartR d x ss rest → declaration_kind (head ss).symbol ≡ Some (declaration.Part (kind_of x))
part_declared d (tree.constants xs) ss rest h = first (λ s. declaration_kind s ≡ Some (declaration.Part part.Constants)) h.1 refl
part_declared d (tree.types xs) ss rest h = first (λ s. declaration_kind s ≡ Some (declaration.Part part.Types)) h.1 refl
part_declared d (tree.declared xs) ss rest h = first (λ s. declaration_kind s ≡ Some (declaration.Part part.Variables)) h.1 refl

part_read : (d : ℕ) (x : Parted) (ss rest : List PlacedSym) → PartR d x ss rest → naming (head rest).symbol ≡ None → part_reader d (kind_of x) ss ≡ got x rest
unfolding part_reader
part_read d (tree.constants xs) ss rest h e = on _ (ap constants_of (left_of h.1) ∙ constants_complete xs h.0 rest h.2 e) refl
part_read d (tree.types xs) ss rest h e = on _ (ap (types_of d) (left_of h.1) ∙ types_complete_lem d xs h.0 rest h.2 e) refl
part_read d (tree.declared xs) ss rest h e = on _ (ap (variable_list_of d) (left_of h.1) ∙ variables_complete d xs h.0 rest h.2 e) refl

parts_complete : (d : ℕ) (xs : List Parted) (ss rest : List PlacedSym) → repeated (PartR d) xs ss rest → naming (head rest).symbol ≡ None → part_kind (head rest).symbol ≡ None → parts_of d ss ≡ got xs rest
unfolding parts_of
parts_complete d xs ss rest h n e =
    repeated_read part_kind (part_reader d) (part_turns d) (PartR d) (λ s. naming s ≡ None) (λ b l mid q. part_first (λ s. naming s ≡ None) refl refl refl d b l mid q)
    (λ b l mid q j. (kind_of b, part_told d b l mid q, part_read d b l mid q j)) xs ss rest h n e

-- ---- procedures

marking_first : (k : Option Marking) (ns : List Lex) (ss mid rest : List PlacedSym) → MarkingR k ss mid → idents ns mid rest → marking (head ss).symbol ≡ k
marking_first None [] ss mid rest s h = absurd h
marking_first None (n ∷ ns) ss mid rest s h = same_first (λ x. marking x ≡ None) s (first_at (λ x. marking x ≡ None) h.1 refl)
marking_first (Some marked.Const) ns ss mid rest s h = first (λ x. marking x ≡ Some marked.Const) s refl
marking_first (Some marked.Var) ns ss mid rest s h = first (λ x. marking x ≡ Some marked.Var) s refl

unmarked_is : (k : Option Marking) (ss mid : List PlacedSym) → MarkingR k ss mid → unmarked k ss ≡ mid
unmarked_is None ss mid s = s
unmarked_is (Some marked.Const) ss mid s = left_of s
unmarked_is (Some marked.Var) ss mid s = left_of s

section_read : (x : Section) (ss rest : List PlacedSym) → SectionR x ss rest → formals_section_of ss ≡ got x rest
unfolding formals_section_of
section_read (tree.formals p k ns c) ss rest h =
    ap (λ y. section_from y (head ss).place (unmarked y ss)) (marking_first k ns ss h.1.0 h.1.2.0 h.1.1 h.1.2.1)
    ∙ on _ (ap idents_of (unmarked_is k ss h.1.0 h.1.1) ∙ idents_read ns h.1.0 h.1.2.0 h.1.2.1 (first (λ s. sym_is_mark m.Comma s ≡ false) h.1.2.2.1 refl))
    (on _ (mark_read m.Colon h.1.2.0 h.1.2.2.0 h.1.2.2.1)
    (on _ (ident_read c h.1.2.2.0 rest h.1.2.2.2) (ap (λ y. got (tree.formals y k ns c) rest) (sym h.0))))

formals_complete : (xs : List Section) (d : ℕ) (ss rest : List PlacedSym) → FormalsR xs d ss rest → sym_is_mark m.LeftParen (head rest).symbol ≡ false → formals_of d ss ≡ got xs rest
unfolding formals_of inner
formals_complete [] d ss rest h e = rw (same_first (λ s. sym_is_mark m.LeftParen s ≡ false) h e) (ap (got []) h)
formals_complete (x ∷ xs) zero ss rest h e = absurd h.2
formals_complete (x ∷ xs) (suc d) ss rest h e =
    rw (first (λ s. sym_is_mark m.LeftParen s ≡ true) h.1 refl)
    (on _ (ap (list_of m.Semicolon formals_section_of) (left_of h.1) ∙ separated_read m.Semicolon formals_section_of section_within SectionR (λ _. Unit {0}) tt (λ b l mid q _. section_read b l mid q) (x ∷ xs) h.0 h.2.0 h.2.1 tt (first (λ s. sym_is_mark m.Semicolon s ≡ false) h.2.2 refl))
    (on _ (mark_read m.RightParen h.2.0 rest h.2.2) refl))

result_first : (P : Sym → Type 0) → P (symbol.mark m.Colon) → (o : Option Lex) (ss rest : List PlacedSym) → ResultR o ss rest → P (head rest).symbol → P (head ss).symbol
result_first P q None ss rest h p = same_first P h p
result_first P q (Some n) ss rest h p = first P h.1 q

result_complete : (o : Option Lex) (ss rest : List PlacedSym) → ResultR o ss rest → sym_is_mark m.Colon (head rest).symbol ≡ false → result_of ss ≡ got o rest
unfolding result_of
result_complete None ss rest h e = rw (same_first (λ s. sym_is_mark m.Colon s ≡ false) h e) (ap (got None) h)
result_complete (Some n) ss rest h e = rw (first (λ s. sym_is_mark m.Colon s ≡ true) h.1 refl) (on _ (ap ident_of (left_of h.1) ∙ ident_read n h.0 rest h.2) refl)

body_first : (P : Sym → Type 0) → P (symbol.word w.Begin) → P (symbol.word w.End) → (b : Stmts) (d : ℕ) (ss rest : List PlacedSym) → BodyR b d ss rest → P (head ss).symbol
body_first P q r b d ss rest h = optional_first P w.Begin q b d ss h.0 h.1 (first P h.2 r)

body_complete : (b : Stmts) (d : ℕ) (ss rest : List PlacedSym) → BodyR b d ss rest → body_of d ss ≡ got (stmt_list b) rest
unfolding body_of
body_complete b d ss rest h =
    on _ (optional_complete b w.Begin d ss h.0 h.1 (first StopB h.2 stop_end) (first (λ s. sym_is_word w.Begin s ≡ false) h.2 refl)) (on _ (word_read w.End h.0 rest h.2) refl)

closing_complete : (n : Lex) (ss rest : List PlacedSym) → repeats n ss rest → closing_of n ss ≡ got tt rest
unfolding closing_of head tail
closing_complete n ss rest h = ap (closing_of n) h.3 ∙ ap (λ y. cond y (got tt rest) (fault Syntax (symbol.name h.0 at h.1 ∷ rest))) h.2

procedure_complete : (x : Proc) (d : ℕ) (ss rest : List PlacedSym) → ProcR x d ss rest → procedure_of d ss ≡ got x rest
unfolding procedure_of inner head tail
procedure_complete (tree.procedure p n fs o ps b) zero ss rest h = absurd h.2
procedure_complete (tree.procedure p n fs o ps b) (suc d) ss rest h =
    ap (procedure_of (suc d)) h.1
    ∙ on _ (ident_read n h.0 h.2.0 h.2.1)
    (on _ (formals_complete fs d h.2.0 h.2.2.0 h.2.2.1 (result_first (λ s. sym_is_mark m.LeftParen s ≡ false) refl o h.2.2.0 h.2.2.2.0 h.2.2.2.1 (first (λ s. sym_is_mark m.LeftParen s ≡ false) h.2.2.2.2.1 refl)))
    (on _ (result_complete o h.2.2.0 h.2.2.2.0 h.2.2.2.1 (first (λ s. sym_is_mark m.Colon s ≡ false) h.2.2.2.2.1 refl))
    (on _ (mark_read m.Semicolon h.2.2.2.0 h.2.2.2.2.0 h.2.2.2.2.1)
    (on _ (parts_complete d ps h.2.2.2.2.0 h.2.2.2.2.2.0 h.2.2.2.2.2.1
    (body_first (λ s. naming s ≡ None) refl refl b d h.2.2.2.2.2.0 h.2.2.2.2.2.2.0 h.2.2.2.2.2.2.1)
    (body_first (λ s. part_kind s ≡ None) refl refl b d h.2.2.2.2.2.0 h.2.2.2.2.2.2.0 h.2.2.2.2.2.2.1))
    (on _ (body_complete b d h.2.2.2.2.2.0 h.2.2.2.2.2.2.0 h.2.2.2.2.2.2.1)
    (on _ (closing_complete n h.2.2.2.2.2.2.0 rest h.2.2.2.2.2.2.2) (ap (λ y. got (tree.procedure p n fs o ps y) rest) (stmts_back b))))))))

-- ---- modules

names_first : (P : Sym → Type 0) (v : Word) → P (symbol.word v) → (ns : List Lex) (ss rest : List PlacedSym) → NamesR v ns ss rest → P (head rest).symbol → P (head ss).symbol
names_first P v q [] ss rest h p = same_first P h p
names_first P v q (n ∷ ns) ss rest h p = first P h.1 q

names_complete : (v : Word) (ns : List Lex) (ss rest : List PlacedSym) → NamesR v ns ss rest → sym_is_word v (head rest).symbol ≡ false → names_of v ss ≡ got ns rest
unfolding names_of
names_complete v [] ss rest h e = rw (same_first (λ s. sym_is_word v s ≡ false) h e) (ap (got []) h)
names_complete v (n ∷ ns) ss rest h e =
    rw (first (λ s. sym_is_word v s ≡ true) h.1 (word_same v))
    (on _ (ap idents_of (left_of h.1) ∙ idents_read (n ∷ ns) h.0 h.2.0 h.2.1 (first (λ s. sym_is_mark m.Comma s ≡ false) h.2.2 refl)) (on _ (mark_read m.Semicolon h.2.0 rest h.2.2) refl))

heading_complete : (p : ℕ) (v : Bool) (n : Lex) (ds us : List Lex) (ss mid rest : List PlacedSym) → module_word_of v ss ≡ got tt mid → HeadR (tree.heading p v n ds us) mid rest → sym_is_word w.Define (head rest).symbol ≡ false → sym_is_word w.Use (head rest).symbol ≡ false → heading_of p v ss ≡ got (tree.heading p v n ds us) rest
unfolding heading_of
heading_complete p v n ds us ss mid rest o h e f =
    on _ o
    (on _ (ident_read n mid h.0 h.1)
    (on _ (mark_read m.Semicolon h.0 h.2.0 h.2.1)
    (on _ (names_complete w.Define ds h.2.0 h.2.2.0 h.2.2.1 (names_first (λ s. sym_is_word w.Define s ≡ false) w.Use refl us h.2.2.0 rest h.2.2.2 e))
    (on _ (names_complete w.Use us h.2.2.0 rest h.2.2.2 f) refl))))

module_first : (P : Sym → Type 0) → P (symbol.word w.Device) → P (symbol.word w.Module) → (x : Modul) (d : ℕ) (ss rest : List PlacedSym) → ModulR x d ss rest → P (head ss).symbol
module_first P q r (tree.whole (tree.heading p true n ds us) xs b) d ss rest h = first_at P h.1.1 q
module_first P q r (tree.whole (tree.heading p false n ds us) xs b) d ss rest h = first_at P h.1 r

decl_first : (P : Sym → Type 0) → P (symbol.word w.Const) → P (symbol.word w.Type) → P (symbol.word w.Var) → P (symbol.word w.Procedure) → P (symbol.word w.Device) → P (symbol.word w.Module) → (x : Decl) (d : ℕ) (ss rest : List PlacedSym) → DeclR x d ss rest → P (head ss).symbol
decl_first P a b c e f g (tree.a_part x) d ss rest h = part_first P a b c d x ss rest h
decl_first P a b c e f g (tree.a_procedure (tree.procedure p n fs o ps s)) d ss rest h = first_at P h.1.1 e
decl_first P a b c e f g (tree.a_module x) d ss rest h = module_first P f g x d ss h.0 h.1

decls_first : (P : Sym → Type 0) → P (symbol.word w.Const) → P (symbol.word w.Type) → P (symbol.word w.Var) → P (symbol.word w.Procedure) → P (symbol.word w.Device) → P (symbol.word w.Module) → (xs : Decls) (d : ℕ) (ss rest : List PlacedSym) → DeclsR xs d ss rest → P (head rest).symbol → P (head ss).symbol
decls_first P a b c e f g tree.no_declaration d ss rest h p = same_first P h p
decls_first P a b c e f g (tree.declaration x xs) d ss rest h p = decl_first P a b c e f g x d ss h.0 h.1

procedure_first : (x : Proc) (d : ℕ) (ss rest : List PlacedSym) → ProcR x d ss rest → declaration_kind (head ss).symbol ≡ Some declaration.Procedure
procedure_first (tree.procedure p n fs o ps b) d ss rest h = first_at (λ s. declaration_kind s ≡ Some declaration.Procedure) h.1 refl

-- what stands behind the heading
module_behind : (d p : ℕ) (v : Bool) (n : Lex) (ds us : List Lex) (xs : Decls) (b : Stmts) (ss r1 r2 r3 rest : List PlacedSym) → heading_of p v ss ≡ got (tree.heading p v n ds us) r1 → declarations_of (level d) r1 ≡ got (decl_list xs) r2 → BodyR b d r2 r3 → repeats n r3 rest → after (heading_of p v ss) (λ h l1. after (declarations_of (level d) l1) (λ ys l2. after (body_of d l2) (λ c l3. mapped (λ _. tree.whole h (decls ys) (stmts c)) (closing_of (reader.name_of h) l3)))) ≡ got (tree.whole (tree.heading p v n ds us) xs b) rest
module_behind d p v n ds us xs b ss r1 r2 r3 rest e f h c =
    on _ e
    (on _ f
    (on _ (body_complete b d r2 r3 h)
    (on _ (closing_complete n r3 rest c)
    (ap (λ y. got (tree.whole (tree.heading p v n ds us) y (stmts (stmt_list b))) rest) (decls_back xs) ∙ ap (λ y. got (tree.whole (tree.heading p v n ds us) xs y) rest) (stmts_back b)))))

-- no name and no declaration begins a body
abbrev StopD : Sym → Type 0
StopD s = (naming s ≡ None) × (declaration_kind s ≡ None) × (sym_is_word w.Define s ≡ false) × (sym_is_word w.Use s ≡ false)

stop_body : (b : Stmts) (d : ℕ) (ss rest : List PlacedSym) → BodyR b d ss rest → StopD (head ss).symbol
stop_body b d ss rest h = body_first StopD (refl, refl, refl, refl) (refl, refl, refl, refl) b d ss rest h

mutual
  unfolding head tail module_for module_of module_word_of declarations_of

  pub module_complete : (x : Modul) (d : ℕ) (ss rest : List PlacedSym) → ModulR x d ss rest → module_for d ss ≡ got x rest
  module_complete (tree.whole (tree.heading p true n ds us) xs b) zero ss rest h = absurd h.2
  module_complete (tree.whole (tree.heading p false n ds us) xs b) zero ss rest h = absurd h.2
  module_complete (tree.whole (tree.heading p true n ds us) xs b) (suc d) ss rest h =
      let s = stop_body b d h.2.2.0 h.2.2.2.0 h.2.2.2.1 in
      ap (module_for (suc d)) h.1.1
      ∙ module_behind d p true n ds us xs b h.1.0 h.2.0 h.2.2.0 h.2.2.2.0 rest
      (heading_complete p true n ds us h.1.0 h.0 h.2.0 (word_read w.Module h.1.0 h.0 h.1.2) h.2.1
      (decls_first (λ y. sym_is_word w.Define y ≡ false) refl refl refl refl refl refl xs d h.2.0 h.2.2.0 h.2.2.1 s.2)
      (decls_first (λ y. sym_is_word w.Use y ≡ false) refl refl refl refl refl refl xs d h.2.0 h.2.2.0 h.2.2.1 s.3))
      (decls_complete xs d h.2.0 h.2.2.0 h.2.2.1 s.0 s.1) h.2.2.2.1 h.2.2.2.2
  module_complete (tree.whole (tree.heading p false n ds us) xs b) (suc d) ss rest h =
      let s = stop_body b d h.2.2.0 h.2.2.2.0 h.2.2.2.1 in
      ap (module_for (suc d)) h.1
      ∙ module_behind d p false n ds us xs b h.0 h.2.0 h.2.2.0 h.2.2.2.0 rest
      (heading_complete p false n ds us h.0 h.0 h.2.0 refl h.2.1
      (decls_first (λ y. sym_is_word w.Define y ≡ false) refl refl refl refl refl refl xs d h.2.0 h.2.2.0 h.2.2.1 s.2)
      (decls_first (λ y. sym_is_word w.Use y ≡ false) refl refl refl refl refl refl xs d h.2.0 h.2.2.0 h.2.2.1 s.3))
      (decls_complete xs d h.2.0 h.2.2.0 h.2.2.1 s.0 s.1) h.2.2.2.1 h.2.2.2.2

  decl_complete : (x : Decl) (d : ℕ) (ss rest : List PlacedSym) → DeclR x d ss rest → naming (head rest).symbol ≡ None → (k : DeclarationKind) × (declaration_kind (head ss).symbol ≡ Some k) × (declaration_of (level d) k ss ≡ got x rest)
  decl_complete (tree.a_part x) d ss rest h e = (declaration.Part (kind_of x), part_declared d x ss rest h, on _ (part_read d x ss rest h e) refl)
  decl_complete (tree.a_procedure x) d ss rest h e =
      (declaration.Procedure, procedure_first x d ss h.0 h.1, on _ (procedure_complete x d ss h.0 h.1) (on _ (mark_read m.Semicolon h.0 rest h.2) refl))
  decl_complete (tree.a_module x) d ss rest h e =
      (declaration.Module, module_first (λ s. declaration_kind s ≡ Some declaration.Module) refl refl x d ss h.0 h.1, on _ (module_complete x d ss h.0 h.1) (on _ (mark_read m.Semicolon h.0 rest h.2) refl))

  decls_complete : (xs : Decls) (d : ℕ) (ss rest : List PlacedSym) → DeclsR xs d ss rest → naming (head rest).symbol ≡ None → declaration_kind (head rest).symbol ≡ None → declarations_of (level d) ss ≡ got (decl_list xs) rest
  decls_complete tree.no_declaration d ss rest h n e = stops declaration_kind _ (declaration_turns (level d) (module_falls d)) ss rest h e
  decls_complete (tree.declaration x xs) d ss rest h n e =
      let r = decl_complete x d ss h.0 h.1 (decls_first (λ s. naming s ≡ None) refl refl refl refl refl refl xs d h.0 rest h.2 n) in
      turns declaration_kind _ (declaration_turns (level d) (module_falls d)) r.0 x (decl_list xs) ss h.0 rest r.1 r.2 (decls_complete xs d h.0 rest h.2 n e)

pub program_complete : (x : Modul) (ss : List PlacedSym) → Sentence x deepest ss → program_of ss ≡ got x []
unfolding program_of expect_end
program_complete x ss h = on _ (module_complete x deepest ss h.0 h.1) (on _ (mark_read m.Dot h.0 [] h.2) (on _ refl refl))
