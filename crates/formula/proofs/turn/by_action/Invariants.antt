-- `formula::turn::by_action` meets its contract: each turn puts one row more.
use Prim.Native.Nat.{◌+◌, ◌*◌, ◌≤◌}
use lib.ListN.{get_or}
use Rattle.sets.specs.Set.{has}
use Rattle.formula.specs.Inner.Group.{group_size}
use Rattle.formula.proofs.Squares.{Rows}
use Rattle.formula.proofs.turn.by_action.Given as goal

abbrev pub invariant-loop-a : goal.invariant-loop-a
invariant-loop-a l = (l.a ≤ group_size) × Rows (λ i j. has (get_or l.granted (l.from + i) 0) (group_size * l.q + j)) l.a l.r
