-- `board::rulings::of_add` meets its contract: the shared checks are all of add's.
use mathlib.Core.Path.{◌∙◌}
use Rattle.board.proofs.Ways.{add_is}
use Rattle.board.proofs.rulings.of_add.Goals as goal

pub returns : goal.returns
returns c p h q = c.of_change.ensures p h ∙ add_is p _ _ _ c.args.entry _ q
