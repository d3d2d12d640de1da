-- `embed::helvemoik_valid` meets its contract: check 11.
use Rattle.embed.proofs.helvemoik_valid.Goals as goal

pub returns : goal.returns
returns c = c.check.ensures
