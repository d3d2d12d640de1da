-- `checks::shape::entry_fits` meets its contract: a set is below 2^U where it is at most the mask of U values.
use native.Mathlib.Omega.{arith}
use lib.Pow.{pow_pos}
use Rattle.std.proofs.lemmas.Bool.Decides.{nat_tests}
use Rattle.policy.specs.Checks.{entry_fits}
use Rattle.checks.proofs.shape.entry_fits.Goals as goal

pub returns-then-e-numbers : goal.returns-then-e-numbers
unfolding entry_fits
returns-then-e-numbers c = grind (arith, nat_tests, pow_pos c.args.values)

pub returns-else-e-numbers : goal.returns-else-e-numbers
unfolding entry_fits
returns-else-e-numbers c = grind (arith, nat_tests, pow_pos c.args.values)
