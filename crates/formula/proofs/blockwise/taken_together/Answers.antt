-- `formula::blockwise::taken_together` meets its contract, lane by lane.
use Rattle.sets.proofs.Laws.{has_meet, has-union}
use Rattle.formula.proofs.blockwise.taken_together.Goals as goal

pub returns-then-both : goal.returns-then-both
returns-then-both c k = rw c.if-both.true (has_meet c.args.x c.args.y k)

pub returns-else-both : goal.returns-else-both
returns-else-both c k = rw c.if-both.false (has-union c.args.x c.args.y k)
