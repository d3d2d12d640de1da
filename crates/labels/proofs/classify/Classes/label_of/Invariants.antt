-- `labels::classify::label_of` meets its contract: the leaders passed are unlike the row, and the next had its label and
-- is like it before column o.
use Prim.Native.Nat.{suc, ◌+◌, ◌-◌}
use mathlib.Core.Path.{◌≡◌}
use Rattle.labels.specs.Inner.Grid.{cell, joined}
use Rattle.labels.proofs.Alike.{Passed, Comparing}
use Rattle.labels.proofs.classify.Classes.label_of.Given as goal

abbrev pub invariant-loop-o : goal.invariant-loop-o
invariant-loop-o l =
    (l.l ≡ l.initial.l) × Comparing (joined l.before (cell l.grid l.view)) (suc l.view.columns) l.u l.self.leaders l.count l.l l.v (l.o + 1)

abbrev pub decreases-loop-o : goal.decreases-loop-o
decreases-loop-o l = l.view.columns - l.o

abbrev pub invariant-next : goal.invariant-next
invariant-next l = Passed (joined l.before (cell l.grid l.view)) (suc l.view.columns) l.u l.self.leaders l.count l.l

abbrev pub decreases-next : goal.decreases-next
decreases-next l = l.count - l.l
