-- `formula::side::twice` meets its contract: after v turns both halves have the vectors of the values below v.
use Rattle.formula.proofs.Vectors.{Filled}
use Rattle.formula.proofs.side.twice.Given as goal

abbrev pub invariant-loop-v : goal.invariant-loop-v
invariant-loop-v g l = Filled (λ w x. g.F.Fn.post l.vector (w, tt) x) l.v l.r
