-- `embed::helvemoik_read` meets its contract: the reading, crossed.
use Rattle.embed.proofs.helvemoik_read.Goals as goal

pub returns : goal.returns
returns c = c.from.ensures _ c.read.ensures
