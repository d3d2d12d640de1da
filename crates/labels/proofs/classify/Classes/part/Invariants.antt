-- `labels::classify::classify` meets its contract: each turn labels one row, and a row that is like no leader becomes
-- one.
use Prim.Native.Nat.{◌-◌}
use Rattle.labels.specs.Inner.Grid.{like_still}
use Rattle.labels.proofs.Turn.{Turned}
use Rattle.labels.proofs.classify.Classes.part.Given as goal

abbrev pub invariant-loop-u : goal.invariant-loop-u
invariant-loop-u l = Turned (like_still l.before l.grid l.view) l.view.rows l.u l.self.labels l.self.leaders l.self.count

abbrev pub decreases-loop-u : goal.decreases-loop-u
decreases-loop-u l = l.view.rows - l.u
