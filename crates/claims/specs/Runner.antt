-- Demand 3's list of calls, as the code runs a list: for every accepted text, with the compiler's buffers, NU and NO,
-- the bytes that running it stores are the plain machine's answers, and the board after it holds the machine's
-- sessions.
use Rattle.std.specs.Prelude.{ℕ, ◌≤◌, ◌≡◌, List, length, Ok}
use Rattle.basis.specs.Lists.{over}
use Rattle.policy.specs.Policy.{Policy}
use Rattle.policy.specs.Read.{Accepted, read_text}
use Rattle.policy.specs.Value.{value_of}
use Rattle.labels.specs.Compile.{Buffers, compile_buffers}
use Rattle.board.specs.Machine.{Map, Ran, machine}
use Rattle.board.specs.Board.{entry_at}
use Rattle.runner.specs.Calls.{items_in, calls_in}
use Rattle.runner.specs.Run.{bytes_of, answer_count, answer_buffer, board_after_run}
use Rattle.claims.specs.Demand3.{Enough, with_counts}

-- the machine, fed the text and those items of the list that are calls
abbrev pub machine_run : List ℕ → List ℕ → Ran Map
machine_run t numbers = machine t (calls_in (items_in numbers))

pub record Run (t : List ℕ) (p : Policy) (b : Buffers) (numbers buffer : List ℕ) : Type 0 where
  pub count : answer_count numbers buffer ≡ Ok (length (items_in numbers))
  pub answers : answer_buffer (value_of p) (with_counts p (compile_buffers (value_of p) b)) numbers buffer ≡ over (bytes_of numbers (machine_run t numbers)) buffer
  pub entries : (k : ℕ) → entry_at (board_after_run (value_of p) (with_counts p (compile_buffers (value_of p) b)) numbers buffer) k ≡ (machine_run t numbers).state k

abbrev pub Claim : Type 0
Claim =
    (t : List ℕ) (p : Policy) → read_text t ≡ Accepted p → (b : Buffers) → Enough p b
    → (numbers buffer : List ℕ) → length (items_in numbers) ≤ length buffer → Run t p b numbers buffer
