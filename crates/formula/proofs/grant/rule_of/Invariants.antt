-- `formula::grant::rule_of` meets its contract: what all rules say of the action is what the rules from i on
-- say of it.
use mathlib.Core.Path.{◌≡◌}
use lib.ListN.{drop}
use Rattle.policy.specs.Policy.{Policy}
use Rattle.formula.specs.Truth.{Sets}
use Rattle.formula.proofs.Granting.{outcome}
use Rattle.formula.proofs.grant.rule_of.Given as goal

abbrev pub invariant-loop-rule : goal.invariant-loop-rule
invariant-loop-rule l = (p : Policy) (s : Sets) → outcome p s (drop l.rule-index l.rule-items) l.action ≡ outcome p s l.rule-items l.action
