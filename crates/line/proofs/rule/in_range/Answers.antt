-- `line::rule::in_range` meets its contract.
use Rattle.line.proofs.Rules.{range-words, range-action}
use Rattle.line.proofs.rule.in_range.Goals as goal

pub returns-then-rule-actions : goal.returns-then-rule-actions
returns-then-rule-actions c = search range-words

pub returns-else-rule-actions : goal.returns-else-rule-actions
returns-else-rule-actions c = search range-action
