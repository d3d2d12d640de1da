-- `formula::evaluate::passing` meets its contract, lane by lane.
use Rattle.formula.proofs.Vectors.{place-equal, place-implied}
use Rattle.formula.proofs.evaluate.passing.Goals as goal

pub returns-then-exact : goal.returns-then-exact
returns-then-exact c k h = rw c.if-exact.true (place-equal c.args.x c.args.y k h)

pub returns-else-exact : goal.returns-else-exact
returns-else-exact c k h = rw c.if-exact.false (place-implied c.args.x c.args.y k h)
