-- `checks::shape::pair_fits` meets its contract: its tests in turn.
use native.Mathlib.Omega.{arith}
use Rattle.std.proofs.lemmas.Bool.Decides.{nat_tests}
use Rattle.policy.specs.Checks.{pair_fits}
use Rattle.checks.proofs.shape.pair_fits.Goals as goal

pub returns-then-x-users : goal.returns-then-x-users
unfolding pair_fits
returns-then-x-users c = grind (arith, nat_tests)

pub returns-else-x-users : goal.returns-else-x-users
unfolding pair_fits
returns-else-x-users c = grind (arith, nat_tests)
