-- `board::fresh` meets its contract: every entry is closed.
use mathlib.Core.Path.{refl}
use Rattle.board.specs.Board.{fresh}
use Rattle.board.proofs.fresh.Goals as goal

pub returns : goal.returns
unfolding fresh
returns c = refl
