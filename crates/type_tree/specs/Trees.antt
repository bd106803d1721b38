-- What a type and a constant say: the same without boxes, and names, numbers and characters by their bytes.
use Rattle.std.specs.Prelude.{ℕ, List, [], ◌∷◌, map, vec_items, Option}
use Rattle.cursor.specs.Reading.{Lex}
use Rattle.cursor.specs.Promises.{lex_of}
use Rattle.expression_tree.specs.declared.Sign.{Sign}
use Rattle.type_tree.specs.declared.Constant.{Constant}
use Rattle.type_tree.specs.declared.Constant.TheVariants as constant
use Rattle.type_tree.specs.declared.TypeExpr.{TypeExpr, Row_of-Section, end_of-Section, more_of-Section}
use Rattle.type_tree.specs.declared.TypeExpr.TheVariants as coded
use Rattle.type_tree.specs.declared.Section.{Section}

pub data Con : Type 0 where
  signed : Option Sign → Lex → Con
  constant_name : Lex → Con
  constant_character : Lex → Con

mutual
  pub data Typ : Type 0 where
    named : Lex → Typ
    enumeration : ℕ → List Lex → Typ
    array_of : ℕ → Con → Con → Typ → Typ
    record_of : ℕ → Secs → Typ

  pub data Secs : Type 0 where
    no_section : Secs
    section : List Lex → Typ → Secs → Secs

-- the sections as they are read: a list of items
abbrev pub secs : List (List Lex × Typ) → Secs
secs [] = no_section
secs (x ∷ xs) = section x.0 x.1 (secs xs)

-- ---- what the code's trees say

abbrev pub con_of : Constant → Con
con_of (constant.Number g l) = signed g (lex_of l)
con_of (constant.Name l) = constant_name (lex_of l)
con_of (constant.Character l) = constant_character (lex_of l)

abbrev mutual
  pub typ_of : TypeExpr → Typ
  typ_of (coded.Named l) = named (lex_of l)
  typ_of (coded.Enumeration k v) = enumeration k (map lex_of (vec_items v))
  typ_of (coded.Array' k a b p t) = array_of k (con_of a) (con_of b) (typ_of t)
  typ_of (coded.Record' k v s) = record_of k (secs (secs_of s))

  pub secs_of : {n : _} → Row_of-Section n → List (List Lex × Typ)
  secs_of end_of-Section = []
  secs_of (more_of-Section v t s) = (map lex_of (vec_items v), typ_of t) ∷ secs_of s

abbrev pub sec_of : Section → List Lex × Typ
sec_of s = (map lex_of (vec_items s.names), typ_of s.field)
