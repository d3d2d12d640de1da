-- `board::fit::entry_reached` meets its contract: an open session's set is held against the reach.
use Rattle.board.proofs.Fitting.{reached-live}
use Rattle.board.proofs.fit.entry_reached.Goals as goal

pub returns-else-entry-eq0 : goal.returns-else-entry-eq0
returns-else-entry-eq0 c p es q = reached-live p c.args.entry c.args.side.now es c.args.assigned q c.if-entry-eq0.false c.covers.result c.covers.ensures
