-- `formula::side::with_juniors` meets its contract: in every lane r is what the lines gone through make of the set.
use mathlib.Core.Path.{◌≡◌}
use mathlib.Core.List.{List, ◌++◌}
use Rattle.seniority.specs.declared.Direct.{Direct}
use Rattle.seniority.proofs.Laws.{lowered}
use Rattle.formula.proofs.Vectors.{Grown}
use Rattle.formula.proofs.side.with_juniors.Given as goal

abbrev pub invariant-loop-line : goal.invariant-loop-line
invariant-loop-line l = (done : List Direct) × (l.lines ≡ l.line-iterator.iter.rest.now ++ done) × Grown l.initial.r l.r (lowered done)
