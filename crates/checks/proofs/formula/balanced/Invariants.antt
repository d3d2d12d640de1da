-- `checks::formula::balanced` meets its contract: the words before place i leave `depth` truth values.
use Rattle.policy.specs.Checks.{balanced}
use Rattle.checks.proofs.Words.{Walked}
use Rattle.checks.proofs.formula.balanced.Given as goal

abbrev pub invariant-loop-n : goal.invariant-loop-n
invariant-loop-n l = Walked balanced l.words l.depth l.n-index
