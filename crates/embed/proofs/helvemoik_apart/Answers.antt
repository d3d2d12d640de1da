-- `embed::helvemoik_apart` meets its contract: what Apart tells, crossed.
use Rattle.embed.proofs.helvemoik_apart.Goals as goal

pub returns : goal.returns
returns c = (c.apart.result, c.apart.ensures, c.from.ensures)
