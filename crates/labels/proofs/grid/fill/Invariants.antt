-- `labels::grid::fill` meets its contract: each turn puts a row.
use Prim.Native.Nat.{◌*◌}
use Rattle.labels.proofs.Grids.{Entered}
use Rattle.labels.proofs.grid.fill.Given as goal

abbrev pub invariant-loop-i : goal.invariant-loop-i
invariant-loop-i l = Entered l.from l.chosen l.n (l.i * l.n) l.grid
