-- `formula::grant::of_action` meets its contract: by the action's rule and by its pairs.
use Rattle.formula.proofs.Pairing.{paired_blank, grant_of}
use Rattle.formula.proofs.grant.of_action.Goals as goal

pub returns-then-pairs-eq0 : goal.returns-then-pairs-eq0
returns-then-pairs-eq0 c p g =
    let t = c.args in let rule = c.rule_of.ensures in
    grant_of p t.grants t.action g _ rule.0 (rule.1 p) (paired_blank t.action t.grants.pairs c.if-pairs-eq0.true)

pub returns-else-pairs-eq0 : goal.returns-else-pairs-eq0
returns-else-pairs-eq0 c p g =
    let t = c.args in let rule = c.rule_of.ensures in
    grant_of p t.grants t.action g _ rule.0 (rule.1 p) c.of_action.ensures
