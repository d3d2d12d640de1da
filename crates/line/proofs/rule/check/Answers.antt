-- `line::rule::check` meets its contract: refusals 6 to 9 in their order.
use Rattle.line.proofs.Rules.{rule-range, rule-level, rule-formula}
use Rattle.line.proofs.rule.check.Goals as goal

pub returns-then-not-in_range : goal.returns-then-not-in_range
returns-then-not-in_range c = search rule-range

pub returns-then-rule-least : goal.returns-then-rule-least
returns-then-rule-least c = search rule-level

pub returns : goal.returns
returns c = search rule-formula
