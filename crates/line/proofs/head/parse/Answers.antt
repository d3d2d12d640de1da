-- `line::head::parse` meets its contract: the field before the first comma names the kind.
use Rattle.std.proofs.lemmas.Result.{err_from_is_err_and}
use Rattle.line.proofs.Fields.{parsed-unknown, parsed-wrong, parsed-fault, parsed-known}
use Rattle.line.proofs.head.parse.Goals as goal

pub returns-in_default : goal.returns-in_default
returns-in_default c = parsed-unknown c.args.before _ _ c.find-c.ensures _ c.parse.ensures c.in_default.is

pub returns-then-not-may_stand : goal.returns-then-not-may_stand
returns-then-not-may_stand c = parsed-wrong c.args.before _ _ c.find-c.ensures _ c.parse.ensures _ c.in-Some.is _ c.may_stand.ensures c.if-not-may_stand.true

pub returns-in_err-numbers : goal.returns-in_err-numbers
returns-in_err-numbers c = let p = err_from_is_err_and c.from_residual.result c.from_residual.ensures.1 in
    rw (p.1, p.2)
    (parsed-fault c.args.before _ _ c.find-c.ensures _ c.parse.ensures _ c.in-Some.is _ c.may_stand.ensures c.if-not-may_stand.false _ c.numbers.ensures _ c.in_err-numbers.was)

pub returns : goal.returns
returns c = parsed-known c.args.before _ _ c.find-c.ensures _ c.parse.ensures _ c.in-Some.is _ c.may_stand.ensures c.if-not-may_stand.false _ c.numbers.ensures _ c.in_ok-numbers.was
