-- `formula::side::closed` meets its contract, by the pass of its side.
use Rattle.policy.specs.Value.{side_of}
use Rattle.formula.proofs.side.closed.Goals as goal

pub returns-then-user : goal.returns-then-user
unfolding side_of
returns-then-user c = rw c.if-user.true c.with_juniors.ensures

pub returns-else-user : goal.returns-else-user
unfolding side_of
returns-else-user c = rw c.if-user.false c.with_seniors.ensures
