-- `runner::answer` meets its contract: a call is taken, what is none answers 5.
use Rattle.runner.specs.Inner.{item_step}
use Rattle.runner.proofs.answer.Goals as goal

pub returns-in-Some : goal.returns-in-Some
unfolding item_step
returns-in-Some g c = rw c.in-Some.is c.take.ensures

pub returns-in-None : goal.returns-in-None
unfolding item_step
returns-in-None g c = rw c.in-None.is
