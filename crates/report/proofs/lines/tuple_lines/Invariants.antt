-- `report::lines::tuple_lines` meets its contract: after each turn the lines of the tuples before the next number are
-- put, and the start is one of the action.
use Prim.Native.Nat.{◌+◌, ◌*◌, ◌-◌}
use mathlib.Core.Path.{◌≡◌}
use Rattle.formula.specs.Inner.Lane.{lanes}
use Rattle.tuples.specs.Inner.Marks.{marked}
use Rattle.report.specs.Inner.Lines.{tuple_text}
use Rattle.report.proofs.Going.{Going}
use Rattle.report.proofs.lines.tuple_lines.Given as goal

abbrev pub invariant-loop-next : goal.invariant-loop-next
invariant-loop-next l =
    Going (λ k. tuple_text l.tuples.action l.tuples.values (l.tuples.first * lanes + k)) (marked l.tuples.marks.words) (l.tuples.marks.count * lanes) l.tuples.from l.initial.buf l.buf l.at l.next × (l.head.action ≡ l.tuples.action)

abbrev pub decreases-loop-next : goal.decreases-loop-next
decreases-loop-next l = l.tuples.marks.count * lanes - l.next
