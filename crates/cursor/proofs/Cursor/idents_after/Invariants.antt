use Rattle.std.proofs.Common.{◌≡◌, ◌++◌, map, length, vec_items}
use Rattle.symbol.specs.declared.mark.Mark.TheVariants.{Comma}
use Rattle.cursor.specs.Reading.{mapped, further_of, ident_of}
use Rattle.cursor.specs.Promises.{lex_of}
use Rattle.cursor.proofs.Cursor.idents_after.Given as goal

abbrev pub invariant-loop-self : goal.invariant-loop-self
invariant-loop-self l =
    mapped (λ bs. map lex_of (vec_items l.names) ++ bs) (further_of Comma ident_of l.self)
    ≡ mapped (λ bs. map lex_of (vec_items l.initial.names) ++ bs) (further_of Comma ident_of l.initial.self)

abbrev pub decreases-loop-self : goal.decreases-loop-self
decreases-loop-self l = length l.self
