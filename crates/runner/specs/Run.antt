-- What running a list of numbers on a fresh board answers, and what it leaves: the run of the list's calls, with 5 for
-- what is no call.
use Rattle.std.specs.Prelude.{ℕ, ◌≡◌, List, [], ◌∷◌, map, ltb, length, Option, None, Some, Result}
use Rattle.basis.specs.Choice.{given, Check, check, first_broken, unless_refused}
use Rattle.basis.specs.Lists.{over}
use Rattle.policy.specs.Answers.{answer_of, Reply, refused, reply_number}
use Rattle.policy.specs.declared.value.PolicyValue.{PolicyValue}
use Rattle.board.specs.Machine.{Call, Ran, run}
use Rattle.board.specs.Board.{Labels, board_step, fresh}
use Rattle.board.specs.declared.Board.{Board}
use Rattle.runner.specs.Calls.{items_in, calls_in}
use Rattle.runner.specs.declared.Ran.{Ran as CodeRan}

-- the answers in the list's order: each call gets its reply, of which there is one a call, and what is no call gets 5
unfoldable pub answers_to : List (Option Call) → List Reply → List Reply
answers_to [] replies = []
answers_to (None ∷ items) replies = refused 5 ∷ answers_to items replies
answers_to (Some c ∷ items) [] = []
answers_to (Some c ∷ items) (r ∷ replies) = r ∷ answers_to items replies

-- the bytes of a run's answers
abbrev pub bytes_of : {S : Type 0} → List ℕ → Ran S → List ℕ
bytes_of numbers r = map reply_number (answers_to (items_in numbers) r.replies)

-- the board's run of the calls in a list, from a fresh board
abbrev pub board_run : PolicyValue → Labels → List ℕ → Ran Board
board_run v l numbers = run (board_step v l) (calls_in (items_in numbers)) fresh

-- 20: the lent buffer is shorter than the number of answers
abbrev pub run_checks : List ℕ → List ℕ → List Check
run_checks numbers buffer = check 20 (ltb (length buffer) (length (items_in numbers))) ∷ []

-- how many answers there are
unfoldable pub answer_count : List ℕ → List ℕ → Result ℕ ℕ
answer_count numbers buffer = unless_refused (run_checks numbers buffer) (length (items_in numbers))

-- the buffer afterwards: what lies past the answers stays, and a refusal changes nothing
unfoldable pub answer_buffer : PolicyValue → Labels → List ℕ → List ℕ → List ℕ
answer_buffer v l numbers buffer =
    given (first_broken (run_checks numbers buffer)) (over (bytes_of numbers (board_run v l numbers)) buffer) (λ n. buffer)

-- the board afterwards: a refused run has made no call
unfoldable pub board_after_run : PolicyValue → Labels → List ℕ → List ℕ → Board
board_after_run v l numbers buffer = given (first_broken (run_checks numbers buffer)) (board_run v l numbers).state (λ n. fresh)

pub record RunsAs (v : PolicyValue) (l : Labels) (numbers buffer : List ℕ) (r : CodeRan) (after : List ℕ) : Type 0 where
  pub answered : answer_of r.answered ≡ answer_count numbers buffer
  pub board : r.board ≡ board_after_run v l numbers buffer
  pub answers : after ≡ answer_buffer v l numbers buffer
