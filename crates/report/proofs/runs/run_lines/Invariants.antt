-- `report::runs::run_lines` meets its contract: after each turn the lines of the numbers before k are put, and rest has
-- the marks from k on.
use Prim.Native.Nat.{◌+◌, ◌-◌}
use mathlib.Core.List.{[], ◌∷◌, ◌++◌}
use lib.ListN.{take}
use Rattle.formula.specs.Inner.Lane.{lanes}
use Rattle.tuples.specs.Inner.Marks.{marked}
use Rattle.tuples.proofs.Marked.{Left}
use Rattle.writer.specs.Inner.Put.{end_line}
use Rattle.report.proofs.Going.{Going}
use Rattle.report.proofs.runs.run_lines.Given as goal

abbrev pub invariant-loop-rest : goal.invariant-loop-rest
invariant-loop-rest l =
    Going (λ i. take l.head.count l.head.text ++ end_line (l.object + i)) (marked (l.w ∷ [])) l.count 0 l.initial.buf l.buf l.at l.k × Left (marked (l.w ∷ [])) lanes l.rest l.k

abbrev pub decreases-loop-rest : goal.decreases-loop-rest
decreases-loop-rest l = lanes - l.k
