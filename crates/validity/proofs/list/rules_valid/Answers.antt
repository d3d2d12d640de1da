-- `validity::list::rules_valid` meets its contract: it is the test of its list.
use mathlib.Core.Path.{sym, ◌∙◌}
use Rattle.std.proofs.Common.{rules}
use Rattle.basis.proofs.Lists.{long}
use Rattle.policy.specs.Value.{no_rule}
use Rattle.policy.specs.Valid.{same_rule}
use Rattle.checks.specs.Inner.{both_in}
use Rattle.validity.specs.Inner.{rule_valid}
use Rattle.validity.proofs.Whole.{rules-are}
use Rattle.validity.proofs.list.rules_valid.Goals as goal

pub returns : goal.returns
returns c =
    c.list_valid.ensures (rule_valid c.args.actions (both_in c.args.shapes.now)) (same_rule no_rule) (λ x r k. search rules) (λ x r k. search rules)
    ∙ sym (rules-are c.args.actions (both_in c.args.shapes.now) c.args.x.now (search (rules, long)))
