-- `line::rule::admit` meets its contract: a word in no form comes first.
use Rattle.std.proofs.lemmas.Result.{err_from_is_err_and}
use Rattle.line.proofs.Rules.{rule-few, rule-malformed, rule-refused, rule-admitted}
use Rattle.line.proofs.rule.admit.Goals as goal

pub returns-in_err-rule : goal.returns-in_err-rule
returns-in_err-rule c =
    let p = err_from_is_err_and c.from_residual.result c.from_residual.ensures.1 in
    rw (p.1, p.2) (rule-malformed c.args.action _ _ c.parse.ensures _ c.in_err-rule.was _ _ _)

pub check-requires : goal.check-requires
check-requires c = rule-few c.args.action _ _ c.parse.ensures _ c.in_ok-rule.was c.requires

pub returns-in_err-check : goal.returns-in_err-check
returns-in_err-check c =
    let p = err_from_is_err_and c.from_residual-in_err-check.result c.from_residual-in_err-check.ensures.1 in
    rw (p.1, p.2) (rule-refused c.args.action _ _ c.parse.ensures _ c.in_ok-rule.was _ _ _ _ c.check.ensures _ c.in_err-check.was)

pub returns : goal.returns
returns c = rule-admitted c.args.action _ _ c.parse.ensures _ c.in_ok-rule.was _ _ _ _ c.check.ensures _ c.in_ok-check.was
