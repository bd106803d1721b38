-- What a record says, by its list of sections. Assumes nothing.
use Rattle.std.proofs.Common.{◌≡◌, ℕ, refl, ap, ◌∙◌, map, ◌∷◌, vec_items}
use Rattle.cursor.specs.Promises.{lex_of}
use Rattle.std.specs.declared.alloc.Global.{Global}
use Rattle.std.specs.declared.vec.Vec.{Vec}
use Rattle.type_tree.specs.declared.TypeExpr.{Row_of-Section, end_of-Section, more_of-Section, items-the_row-Section, items_hidden-the_row-Section-0}
use Rattle.type_tree.specs.declared.TypeExpr.TheBlock.{hidden-the_row-Section-0}
use Rattle.type_tree.specs.declared.TypeExpr.TheVariants as coded
use Rattle.type_tree.specs.declared.Section.{Section}
use Rattle.type_tree.specs.Trees.{typ_of, sec_of, secs_of, secs, record_of}

sections_listed : {n : _} (k : Row_of-Section n) → secs_of k ≡ map sec_of (items-the_row-Section n k)
sections_listed end_of-Section = refl
sections_listed (more_of-Section v t s) = ap (λ l. (map lex_of (vec_items v), typ_of t) ∷ l) (sections_listed s)

pub record_says : (k : ℕ) (v : Vec Section Global) → typ_of (coded.Record k v) ≡ record_of k (secs (map sec_of v.items))
record_says k v = ap (λ l. record_of k (secs l)) (sections_listed (hidden-the_row-Section-0 v) ∙ ap (map sec_of) (items_hidden-the_row-Section-0 v))
