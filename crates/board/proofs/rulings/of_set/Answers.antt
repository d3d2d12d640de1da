-- `board::rulings::of_set` meets its contract: one law for each way out.
use Rattle.board.proofs.Ways.{set-outside, set-over, set-kept}
use Rattle.board.proofs.rulings.of_set.Goals as goal

pub returns-then-not-inside : goal.returns-then-not-inside
returns-then-not-inside c = search set-outside

pub returns-then-over : goal.returns-then-over
returns-then-over c = search set-over

pub returns : goal.returns
returns c = search set-kept
