-- `validity::lists_valid` meets its contract: the users, the objects, the conflicts, the rules and the pairs in turn.
use native.Mathlib.Omega.{arith}
use Rattle.std.proofs.lemmas.Bool.Decides.{nat_tests}
use Rattle.validity.specs.Inner.{lists_valid}
use Rattle.validity.proofs.lists_valid.Goals as goal

pub returns-then-rules_valid : goal.returns-then-rules_valid
unfolding lists_valid
returns-then-rules_valid c = grind (arith, nat_tests)

pub returns-else-rules_valid : goal.returns-else-rules_valid
unfolding lists_valid
returns-else-rules_valid c = grind (arith, nat_tests)
