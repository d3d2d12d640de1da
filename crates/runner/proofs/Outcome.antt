-- The two ways out of a run: refused whole, or every item answered.
use Rattle.std.specs.Prelude.{Ok, Err}
use Prim.Native.Nat.{ℕ, ◌≤◌, ◌<◌}
use mathlib.Core.Path.{◌≡◌}
use mathlib.Core.List.{List}
use borrow.Author.Tests.{lt-ltb, le-ltb}
use lib.ListN.{length}
use Rattle.basis.specs.Choice.{first_broken}
use Rattle.policy.specs.declared.value.PolicyValue.{PolicyValue}
use Rattle.policy.specs.declared.refusal.Refusal.TheVariants.{BufferTooShort}
use Rattle.board.specs.Board.{Labels, board_step, fresh}
use Rattle.board.specs.declared.Board.{Board}
use Rattle.runner.specs.Calls.{items_in}
use Rattle.runner.specs.Run.{answer_count, answer_buffer, board_after_run, RunsAs}
use Rattle.runner.proofs.Weaving.{Reached, reached-all}

module _ (v : PolicyValue) (l : Labels) (numbers buffer : List ℕ) (b : Board) where
  pub run-refused : b ≡ fresh → length buffer < length (items_in numbers)
      → RunsAs v l numbers buffer (record { answered = Err BufferTooShort; board = b }) buffer
  unfolding answer_count answer_buffer board_after_run first_broken
  run-refused e h =
      record {
        answered = rw (lt-ltb (length buffer) (length (items_in numbers)) h);
        board = rw (lt-ltb (length buffer) (length (items_in numbers)) h) e;
        answers = rw (lt-ltb (length buffer) (length (items_in numbers)) h);
      }

  module _ (room : length (items_in numbers) ≤ length buffer) (start : Board) (e : start ≡ fresh) (i : ℕ) (out : List ℕ)
      (r : Reached (board_step v l) (items_in numbers) start buffer i b out) (end : length (items_in numbers) ≤ i) where
    pub run-answered : (n : ℕ) → n ≡ length (items_in numbers) → RunsAs v l numbers buffer (record { answered = Ok n; board = b }) out
    unfolding answer_count answer_buffer board_after_run first_broken
    run-answered n q =
        let a = reached-all (board_step v l) (items_in numbers) start buffer i b out r end in
        record {
          answered = rw (le-ltb (length buffer) (length (items_in numbers)) room, q);
          board = rw (le-ltb (length buffer) (length (items_in numbers)) room, ← e) a.0;
          answers = rw (le-ltb (length buffer) (length (items_in numbers)) room, ← e) a.1;
        }
