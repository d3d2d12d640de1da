-- `checks::shape::conflict_fits` meets its contract: a set is below 2^U where it is at most the mask of U values.
use native.Mathlib.Omega.{arith}
use lib.Pow.{pow_pos}
use Rattle.std.proofs.lemmas.Bool.Decides.{nat_tests}
use Rattle.policy.specs.Checks.{conflict_fits}
use Rattle.checks.proofs.shape.conflict_fits.Goals as goal

pub returns-then-x-first : goal.returns-then-x-first
unfolding conflict_fits
returns-then-x-first c = grind (arith, nat_tests, pow_pos c.args.values)

pub returns-else-x-first : goal.returns-else-x-first
unfolding conflict_fits
returns-else-x-first c = grind (arith, nat_tests, pow_pos c.args.values)
