-- The claim about a list as the code runs it follows from demand 3 at the calls of the list.
use mathlib.Core.Path.{ap}
use mathlib.Core.List.{List, map}
use borrow.Author.Tests.{le-ltb}
use lib.ListN.{length}
use Rattle.basis.specs.Choice.{first_broken}
use Rattle.basis.specs.Lists.{over}
use Rattle.policy.specs.Answers.{Reply, reply_number}
use Rattle.runner.specs.Calls.{items_in, calls_in}
use Rattle.runner.specs.Run.{answers_to, answer_count, answer_buffer, board_after_run}
use Rattle.claims.specs.Runner.{Claim}
use Rattle.claims.proofs.Demand3.{demand3}

pub list-run : Claim
unfolding answer_count answer_buffer board_after_run first_broken
list-run t p e b room numbers buffer h =
    let d = (demand3 t p e).sessions b room (calls_in (items_in numbers)) in
    let fits = le-ltb (length buffer) (length (items_in numbers)) h in
    record {
      count = rw fits;
      answers = rw fits (ap (λ (rs : List Reply). over (map reply_number (answers_to (items_in numbers) rs)) buffer) d.answers);
      entries = λ k. rw fits (d.entries k);
    }
