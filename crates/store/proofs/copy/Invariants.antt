use Rattle.std.proofs.Common.{◌≡◌, ◌++◌, take, drop}
use Rattle.store.proofs.copy.Given as goal

abbrev pub invariant-loop-n : goal.invariant-loop-n
invariant-loop-n g l =
    (g.S.Cells.cells l.to ≡ take l.n (g.C.Cells.cells l.from) ++ drop l.n (g.S.Cells.cells l.initial.to)) × g.S.Store.beside l.initial.to l.to
