-- `checks::shape::width_fits` meets its contract: the sum's test by the room that is left.
use native.Mathlib.Omega.{arith}
use Rattle.std.proofs.lemmas.Bool.Decides.{nat_tests}
use Rattle.policy.specs.Checks.{width_fits}
use Rattle.checks.proofs.shape.width_fits.Goals as goal

pub returns-then-w-most : goal.returns-then-w-most
unfolding width_fits
returns-then-w-most c = grind (arith, nat_tests)

pub returns-else-w-most : goal.returns-else-w-most
unfolding width_fits
returns-else-w-most c = grind (arith, nat_tests)
