-- `formula::grant::named` meets its contract: it is the policy's rule or one of the policy's pairs.
use Rattle.policy.specs.Policy.{named}
use Rattle.formula.proofs.grant.named.Goals as goal

pub returns-then-has_rule : goal.returns-then-has_rule
unfolding named
returns-then-has_rule c p g = rw (g.rules, ← c.has_rule.ensures, c.if-has_rule.true)

pub returns-else-has_rule : goal.returns-else-has_rule
unfolding named
returns-else-has_rule c p g = rw (g.rules, g.pairs, ← c.has_rule.ensures, c.if-has_rule.false) c.name.ensures
