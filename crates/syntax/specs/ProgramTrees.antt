-- The plain trees of programs.
use Rattle.std.specs.Prelude.{ℕ, Bool, List, [], ◌∷◌, Option}
use Rattle.cursor.specs.Reading.{Lex}
use Rattle.type_tree.specs.Trees.{Con, Typ}
use Rattle.syntax.specs.StatementTrees.{Stmts}
use Rattle.syntax.specs.declared.Marking.{Marking}

pub data Variables : Type 0 where
  variables : List Lex → Typ → Variables
  register : Lex → Lex → Typ → Variables

pub data Parted : Type 0 where
  constants : List (Lex × Con) → Parted
  types : List (Lex × Typ) → Parted
  declared : List Variables → Parted

pub data Section : Type 0 where
  formals : ℕ → Option Marking → List Lex → Lex → Section

pub data Proc : Type 0 where
  procedure : ℕ → Lex → List Section → Option Lex → List Parted → Stmts → Proc

-- how a module begins
pub data Head : Type 0 where
  heading : ℕ → Bool → Lex → List Lex → List Lex → Head

mutual
  pub data Modul : Type 0 where
    whole : Head → Decls → Stmts → Modul

  pub data Decl : Type 0 where
    a_part : Parted → Decl
    a_procedure : Proc → Decl
    a_module : Modul → Decl

  pub data Decls : Type 0 where
    no_declaration : Decls
    declaration : Decl → Decls → Decls

-- what stands in a module, as it is read: a list of items
abbrev pub decls : List Decl → Decls
decls [] = no_declaration
decls (x ∷ xs) = declaration x (decls xs)
