-- `board::steps::settle` meets its contract, by the ruling's cases.
use mathlib.Core.Path.{ap}
use Rattle.board.specs.Inner.{refusal_of, settled}
use Rattle.board.proofs.steps.settle.Goals as goal

pub bounds-after-session : goal.bounds-after-session
bounds-after-session c = c.requires (ap refusal_of c.in-Ok.is)

pub returns-in-Ok : goal.returns-in-Ok
unfolding settled
returns-in-Ok c = rw c.in-Ok.is

pub returns-in-Err : goal.returns-in-Err
unfolding settled
returns-in-Err c = rw c.in-Err.is
