use Rattle.std.proofs.Common.{◌≡◌, ◌+◌, set, ap, ◌∙◌}
use Rattle.std.proofs.lemmas.Int.{to_z-of_z}
use Rattle.store.specs.Cells.{window}
use Rattle.store.proofs.Windows.{set_window}
use Rattle.store.proofs.BayStore.put.Goals as goal

pub returns-clause-after : goal.returns-clause-after
returns-clause-after g c =
    let b = c.args.self.now in
    let fits = c.ranges.v in
    let e : g.S.Cells.cells c.put.new.self ≡ set (g.S.Cells.cells b.below) (b.first + c.args.n) c.args.v = simp to_z-of_z at c.put.ensures.after in
    ap (window b.first b.len) e ∙ set_window b.first b.len c.args.n (g.S.Cells.cells b.below) c.args.v
