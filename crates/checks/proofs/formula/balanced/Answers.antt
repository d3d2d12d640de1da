-- `checks::formula::balanced` meets its contract: the words before place i leave `depth` truth values.
use mathlib.Core.Path.{refl}
use Rattle.checks.proofs.Words.{balanced-walk, walked_none, walked_all, walked-stuck, walked-more}
use Rattle.checks.proofs.formula.balanced.Goals as goal

pub loop-n-init : goal.loop-n-init
loop-n-init c = walked_none

pub returns-in_default : goal.returns-in_default
returns-in_default c =
    walked-stuck balanced-walk c.loop-n.invariant c.loop-n-test.true c.from.ensures c.after.ensures c.in_default.is

pub loop-n-preserved : goal.loop-n-preserved
loop-n-preserved c =
    walked-more balanced-walk c.loop-n.invariant c.loop-n-test.true c.from.ensures c.after.ensures refl refl c.in-Some.is

pub returns : goal.returns
returns c = walked_all balanced-walk c.loop-n.invariant c.loop-n-test.false
