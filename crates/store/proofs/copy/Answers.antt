use Rattle.std.proofs.Common.{arith, w32, SFits, rules}
use Rattle.std.proofs.lemmas.Int.{to_z-of_z}
use Rattle.store.proofs.Loops.{copy_more, cell_is, cell_there}
use Rattle.store.proofs.copy.Goals as goal
use Rattle.store.proofs.copy.Goals.{in-Ok, in_default}

pub loop-n-preserved : goal.loop-n-preserved
loop-n-preserved g c =
    let xs = g.C.Cells.cells c.args.from.now in
    let ys = g.S.Cells.cells c.args.to.now in
    let i = c.loop-n.n in
    elim c.match-get.branch [
      | in-Ok w ↦
          let v = w.in-Ok.v in
          let fits : SFits w32 v = search rules in
          let m = copy_more xs ys i v (cell_is xs i v w.in-Ok.ensures) (omega arith) (omega arith) in
          (rw w.to-is (rw w.put.ensures.after (simp to_z-of_z (rw c.loop-n.invariant.0 m))), rw w.to-is (g.met.S.Store.steady.along _ _ _ c.loop-n.invariant.1 w.put.ensures.rest))
      | in_default w ↦ absurd (cell_there xs i w.in_default.field-0 (omega arith) w.in_default.ensures)
    ]
