-- `validity::side::measure` meets its contract: the widths before place i pass and sum to `total`.
use lib.ListN.{take}
use Rattle.validity.proofs.Widths.{Summed}
use Rattle.validity.proofs.side.measure.Given as goal

abbrev pub invariant-loop-w : goal.invariant-loop-w
invariant-loop-w l = Summed l.most (take l.n l.widths) l.total l.w-index
