-- `formula::pairs::none_paired` meets its contract: r is 0 exactly where the sets before v are.
use Prim.Native.Nat.{◌≤◌}
use mathlib.Core.Path.{◌≡◌}
use lib.Dec.{eqb}
use lib.ListN.{get_or}
use Rattle.basis.specs.Numbers.{every}
use Rattle.policy.specs.Limits.{most_values}
use Rattle.formula.proofs.pairs.none_paired.Given as goal

abbrev pub invariant-loop-v : goal.invariant-loop-v
invariant-loop-v l = (l.v ≤ most_values) × (eqb l.r 0 ≡ every (λ u. eqb (get_or l.paired u 0) 0) l.v)
