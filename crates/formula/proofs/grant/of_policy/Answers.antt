-- `formula::grant::of_policy` meets its contract: the rules and the pairs are the policy's.
use mathlib.Core.Path.{refl}
use Rattle.policy.specs.Value.{policy_of}
use Rattle.formula.proofs.grant.of_policy.Goals as goal

pub returns : goal.returns
unfolding policy_of
returns c = let f = c.requires in record { fit = f.rules; rules = refl; pairs-fit = f.pairs; pairs = refl }
