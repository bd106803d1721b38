-- No reader of declarations, procedures and modules reads anything twice. Assumes nothing.
use Rattle.std.proofs.Common.{ℕ, zero, suc, Bool, List, [], ◌∷◌, length, Some, None, Option, refl, arith}
use Rattle.symbol.specs.Symbols.{PlacedSym}
use Rattle.symbol.specs.declared.mark.Mark.TheVariants.{Equal, LeftParen, RightParen, LeftBracket, RightBracket, Colon, Semicolon, Comma}
use Rattle.symbol.specs.declared.word.Word.{Word}
use Rattle.symbol.specs.declared.word.Word.TheVariants as w
use Rattle.cursor.specs.Kinds.{sym_is_mark, sym_is_word}
use Rattle.cursor.specs.Reading.{fault, after, mapped, head, tail, expect_mark, expect_word, Lex, name_in, ident_of, number_of, idents_of, inner, nested, further_of, list_of}
use Rattle.cursor.proofs.Loops.{Within, Reading, All, Turns, all_inner, within_after, within_mapped, within_tail, within_cond, length_tail, reading_got, mark_within, word_within, ident_within, number_within, idents_within, nested_within, loop_within, list_within, further_turns}
use Rattle.type_parser.specs.Readers.{constant_of, type_expr_of}
use Rattle.type_parser.proofs.Within.{constant_within, type_within}
use Rattle.syntax.specs.Statements.{statement, optional_of}
use Rattle.syntax.proofs.StatementsWithin.{statement_within, optional_within}
use Rattle.syntax.specs.ProgramTrees.{Section}
use Rattle.syntax.specs.declared.Marking.{Marking}
use Rattle.syntax.specs.declared.PartKind.{PartKind}
use Rattle.syntax.specs.declared.PartKind.TheVariants as part
use Rattle.syntax.specs.declared.DeclarationKind.{DeclarationKind}
use Rattle.syntax.specs.declared.DeclarationKind.TheVariants as kind
use Rattle.syntax.specs.Declarations.{naming, constant_declaration_of, constants_of, type_declaration_of, types_of, register_of, variables_after, variable_declaration_of, variable_list_of, part_kind, part_reader, parts_of}
use Rattle.syntax.specs.Procedures.{marking, unmarked, section_from, formals_section_of, formals_of, result_of, body_of, closes, closing_of, procedure_of}
use Rattle.syntax.specs.Modules.{opening, declaration_kind, names_of, module_word_of, heading_of, name_of, Level, declaration_of, declarations_of, module_at, module_of, module_for}

numbers : (d : ℕ) → All (λ (_ : ℕ). Unit {0}) (inner (λ e. e) d)
numbers d = all_inner (λ (_ : ℕ). Unit {0}) (λ e. e) d (λ _. tt)

-- a fault or fewer symbols, whatever begins here
ident_reads : (ss : List PlacedSym) → Within (length (tail ss)) (ident_of ss)
unfolding ident_of
ident_reads ss = go (name_in (head ss).symbol)
  where
    go : (x : Option (List ℕ)) → Within (length (tail ss)) (Rattle.cursor.specs.Reading.lexeme_at x ss)
    go None = tt
    go (Some b) = omega arith

-- ---- parts

constant_falls : (ss : List PlacedSym) → Within (length (tail ss)) (constant_declaration_of ss)
unfolding constant_declaration_of
constant_falls ss =
    within_after _ (ident_of ss) _ (ident_reads ss)
    (λ n r1. within_after _ (expect_mark Equal r1) _ (mark_within Equal r1)
    (λ _ r2. within_after _ (constant_of r2) _ (constant_within r2)
    (λ c r3. within_mapped _ _ (expect_mark Semicolon r3) (mark_within Semicolon r3))))

pub constant_turns : Turns naming (λ _. constant_declaration_of)
constant_turns = record { ends = refl; reads = λ _ ss. constant_falls ss }

pub constants_within : Reading constants_of
unfolding constants_of
constants_within ss = loop_within _ _ constant_turns ss

module _ (d : ℕ) where
  type_falls : (ss : List PlacedSym) → Within (length (tail ss)) (type_declaration_of d ss)
  unfolding type_declaration_of
  type_falls ss =
      within_after _ (ident_of ss) _ (ident_reads ss)
      (λ n r1. within_after _ (expect_mark Equal r1) _ (mark_within Equal r1)
      (λ _ r2. within_after _ (type_expr_of d r2) _ (type_within d r2)
      (λ c r3. within_mapped _ _ (expect_mark Semicolon r3) (mark_within Semicolon r3))))

  pub type_turns : Turns naming (λ _. type_declaration_of d)
  type_turns = record { ends = refl; reads = λ _ ss. type_falls ss }

  pub types_within : Reading (types_of d)
  unfolding types_of
  types_within ss = loop_within _ _ type_turns ss

  register_within : (n : Lex) → Reading (register_of d n)
  register_within n ss =
      within_tail (register_of d n ss) ss
      (nested_within (λ (_ : ℕ). Unit {0}) (inner (λ e. e) d) ss _ (numbers d)
      (λ _ _ r1. within_after _ (number_of r1) _ (number_within r1)
      (λ a r2. within_after _ (expect_mark RightBracket r2) _ (mark_within RightBracket r2)
      (λ _ r3. within_after _ (expect_mark Colon r3) _ (mark_within Colon r3)
      (λ _ r4. within_after _ (type_expr_of d r4) _ (type_within d r4)
      (λ t r5. within_mapped _ _ (expect_mark Semicolon r5) (mark_within Semicolon r5)))))))

  after_within : (n : Lex) → Reading (variables_after d n)
  after_within n ss =
      within_after _ (mapped (λ ns. n ∷ ns) (further_of Comma ident_of ss)) _ (within_mapped _ _ (further_of Comma ident_of ss) (loop_within _ _ (further_turns Comma ident_of ident_within) ss))
      (λ ns r1. within_after _ (expect_mark Colon r1) _ (mark_within Colon r1)
      (λ _ r2. within_after _ (type_expr_of d r2) _ (type_within d r2)
      (λ t r3. within_mapped _ _ (expect_mark Semicolon r3) (mark_within Semicolon r3))))

  variable_falls : (ss : List PlacedSym) → Within (length (tail ss)) (variable_declaration_of d ss)
  unfolding variable_declaration_of
  variable_falls ss =
      within_after _ (ident_of ss) _ (ident_reads ss)
      (λ n rest. within_cond _ (sym_is_mark LeftBracket (head rest).symbol) _ _ (register_within n rest) (after_within n rest))

  pub variable_turns : Turns naming (λ _. variable_declaration_of d)
  variable_turns = record { ends = refl; reads = λ _ ss. variable_falls ss }

  pub variables_within : Reading (variable_list_of d)
  unfolding variable_list_of
  variables_within ss = loop_within _ _ variable_turns ss

  pub part_falls : (k : PartKind) (ss : List PlacedSym) → Within (length (tail ss)) (part_reader d k ss)
  unfolding part_reader
  part_falls part.Constants ss = within_mapped _ _ (constants_of (tail ss)) (constants_within (tail ss))
  part_falls part.Types ss = within_mapped _ _ (types_of d (tail ss)) (types_within (tail ss))
  part_falls part.Variables ss = within_mapped _ _ (variable_list_of d (tail ss)) (variables_within (tail ss))

  pub part_turns : Turns part_kind (part_reader d)
  part_turns = record { ends = refl; reads = part_falls }

  pub parts_within : Reading (parts_of d)
  unfolding parts_of
  parts_within ss = loop_within _ _ part_turns ss

-- ---- procedures

section_from_lem : (k : Option Marking) (p : ℕ) → Reading (section_from k p)
section_from_lem k p ss =
    within_after _ (idents_of ss) _ (idents_within ss)
    (λ ns r1. within_after _ (expect_mark Colon r1) _ (mark_within Colon r1) (λ _ r2. within_mapped _ _ (ident_of r2) (ident_within r2)))

pub section_within : Reading formals_section_of
unfolding formals_section_of
section_within ss = go (marking (head ss).symbol)
  where
    go : (k : Option Marking) → Within (length ss) (section_from k (head ss).place (unmarked k ss))
    go None = section_from_lem None _ ss
    go (Some k) = within_tail (section_from (Some k) (head ss).place (tail ss)) ss (section_from_lem (Some k) _ (tail ss))

pub formals_within : (d : ℕ) → Reading (formals_of d)
unfolding formals_of
formals_within d ss =
    within_cond _ (sym_is_mark LeftParen (head ss).symbol) _ _
    (within_tail (nested (inner (λ e. e) d) ss (λ _ rest. after (list_of Semicolon formals_section_of rest) (λ xs left. mapped (λ _. xs) (expect_mark RightParen left)))) ss
    (nested_within (λ (_ : ℕ). Unit {0}) (inner (λ e. e) d) ss _ (numbers d)
    (λ _ _ rest. within_after _ (list_of Semicolon formals_section_of rest) _ (list_within Semicolon formals_section_of section_within rest)
    (λ xs left. within_mapped _ _ (expect_mark RightParen left) (mark_within RightParen left)))))
    (reading_got {A = List Section} [] ss)

pub result_within : Reading result_of
unfolding result_of
result_within ss =
    within_cond _ (sym_is_mark Colon (head ss).symbol) _ _ (within_mapped _ _ (ident_of (tail ss)) (within_tail (ident_of (tail ss)) ss (ident_within (tail ss)))) (reading_got {A = Option Lex} None ss)

pub body_within : (d : ℕ) → Reading (body_of d)
unfolding body_of
body_within d ss =
    within_after _ (optional_of (statement d) w.Begin ss) _ (optional_within (statement d) (statement_within d) w.Begin ss)
    (λ b rest. within_mapped _ _ (expect_word w.End rest) (word_within w.End rest))

pub closing_within : (n : Lex) → Reading (closing_of n)
unfolding closing_of
closing_within n ss = within_cond _ (closes n (head ss).symbol) _ _ (length_tail ss) tt

pub procedure_falls : (d : ℕ) (ss : List PlacedSym) → Within (length (tail ss)) (procedure_of d ss)
unfolding procedure_of
procedure_falls d ss =
    nested_within (λ (_ : ℕ). Unit {0}) (inner (λ e. e) d) ss _ (numbers d)
    (λ e _ r0. within_after _ (ident_of r0) _ (ident_within r0)
    (λ n r1. within_after _ (formals_of e r1) _ (formals_within e r1)
    (λ fs r2. within_after _ (result_of r2) _ (result_within r2)
    (λ o r3. within_after _ (expect_mark Semicolon r3) _ (mark_within Semicolon r3)
    (λ _ r4. within_after _ (parts_of e r4) _ (parts_within e r4)
    (λ ps r5. within_after _ (body_of e r5) _ (body_within e r5)
    (λ b r6. within_mapped _ _ (closing_of n r6) (closing_within n r6))))))))

-- ---- modules

pub names_within : (v : Word) → Reading (names_of v)
unfolding names_of
names_within v ss =
    within_cond _ (sym_is_word v (head ss).symbol) _ _
    (within_after _ (idents_of (tail ss)) _ (within_tail (idents_of (tail ss)) ss (idents_within (tail ss))) (λ ns rest. within_mapped _ _ (expect_mark Semicolon rest) (mark_within Semicolon rest)))
    (reading_got {A = List Lex} [] ss)

module_word_within : (b : Bool) → Reading (module_word_of b)
unfolding module_word_of
module_word_within b ss = within_cond _ b _ _ (word_within w.Module ss) (reading_got {A = Unit {0}} tt ss)

pub heading_within : (k : ℕ) (b : Bool) → Reading (heading_of k b)
unfolding heading_of
heading_within k b ss =
    within_after _ (module_word_of b ss) _ (module_word_within b ss)
    (λ _ r0. within_after _ (ident_of r0) _ (ident_within r0)
    (λ n r1. within_after _ (expect_mark Semicolon r1) _ (mark_within Semicolon r1)
    (λ _ r2. within_after _ (names_of w.Define r2) _ (names_within w.Define r2)
    (λ ds r3. within_mapped _ _ (names_of w.Use r3) (names_within w.Use r3)))))

-- what is asked of a level: a module reads a symbol at least
abbrev pub Sound : Level → Type 0
Sound l = (ss : List PlacedSym) → Within (length (tail ss)) (l.1 ss)

declaration_falls : (l : Level) → Sound l → (k : DeclarationKind) (ss : List PlacedSym) → Within (length (tail ss)) (declaration_of l k ss)
declaration_falls l v (kind.Part k) ss = within_mapped _ _ (part_reader l.0 k ss) (part_falls l.0 k ss)
declaration_falls l v kind.Procedure ss =
    within_after _ (procedure_of l.0 ss) _ (procedure_falls l.0 ss) (λ p rest. within_mapped _ _ (expect_mark Semicolon rest) (mark_within Semicolon rest))
declaration_falls l v kind.Module ss = within_after _ (l.1 ss) _ (v ss) (λ p rest. within_mapped _ _ (expect_mark Semicolon rest) (mark_within Semicolon rest))

pub declaration_turns : (l : Level) → Sound l → Turns declaration_kind (declaration_of l)
declaration_turns l v = record { ends = refl; reads = declaration_falls l v }

pub declarations_within : (l : Level) → Sound l → Reading (declarations_of l)
unfolding declarations_of
declarations_within l v ss = loop_within _ _ (declaration_turns l v) ss

module_at_lem : (i : Option Level) → All Sound i → (x : Option Bool) (ss : List PlacedSym) → Within (length (tail ss)) (module_at i x ss)
module_at_lem i v None ss = tt
module_at_lem i v (Some device) ss =
    nested_within Sound i ss _ v
    (λ l s r0. within_after _ (heading_of (head ss).place device r0) _ (heading_within (head ss).place device r0)
    (λ h r1. within_after _ (declarations_of l r1) _ (declarations_within l s r1)
    (λ ds r2. within_after _ (body_of l.0 r2) _ (body_within l.0 r2)
    (λ b r3. within_mapped _ _ (closing_of (name_of h) r3) (closing_within (name_of h) r3)))))

pub module_falls : (d : ℕ) (ss : List PlacedSym) → Within (length (tail ss)) (module_for d ss)
unfolding module_for module_of
module_falls zero ss = module_at_lem None tt (opening (head ss).symbol) ss
module_falls (suc d) ss = module_at_lem (Some (d, module_for d)) (module_falls d) (opening (head ss).symbol) ss
