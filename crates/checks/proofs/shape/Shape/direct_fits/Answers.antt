-- `checks::shape::Shape::direct_fits` meets its contract: J is below V, and so is there where V is.
use native.Mathlib.Omega.{arith}
use Rattle.std.proofs.lemmas.Bool.Decides.{nat_tests}
use Rattle.policy.specs.Checks.{direct_fits}
use Rattle.checks.proofs.shape.Shape.direct_fits.Goals as goal

pub returns-then-l : goal.returns-then-l
unfolding direct_fits
returns-then-l c = grind (arith, nat_tests)

pub returns-else-l : goal.returns-else-l
unfolding direct_fits
returns-else-l c = grind (arith, nat_tests)
