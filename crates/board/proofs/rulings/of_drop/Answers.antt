-- `board::rulings::of_drop` meets its contract: where nothing is over a conflict, the shared checks are all of drop's.
use Rattle.basis.specs.Choice.{first_broken}
use Rattle.board.specs.Machine.{checks}
use Rattle.board.proofs.rulings.of_drop.Goals as goal

pub returns : goal.returns
unfolding checks first_broken
returns c = c.of_change.ensures
