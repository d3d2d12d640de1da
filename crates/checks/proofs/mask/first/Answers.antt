-- `checks::mask::first` meets its contract: a side has fewer values than a number has bits, so that 2^k fits into one.
use Prim.Native.Nat.{ℕ, ◌^◌, ◌≤◌, ◌<◌}
use native.Mathlib.Omega.{arith}
use lib.Pow.{pow_pos, pow-lt}
use Rattle.policy.specs.Limits.{most_values}
use Rattle.checks.proofs.mask.first.Goals as goal

power_fits : (k : ℕ) → k ≤ most_values → 2 ^ k < 2 ^ 32
power_fits k h = pow-lt {i = k} {j = 32} (omega arith)

pub overflow_sub-result : goal.overflow_sub-result
overflow_sub-result c = omega (arith, power_fits c.args.k c.requires, pow_pos c.args.k)

pub returns : goal.returns
returns c = omega (arith, power_fits c.args.k c.requires)
