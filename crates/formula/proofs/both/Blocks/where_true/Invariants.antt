-- `formula::both::Blocks::where_true` meets its contract: in every lane the stack is what running the first i words leaves on a
-- stack on which false lies.
use Prim.Native.Nat.{ℕ, ◌+◌, ◌≤◌, ◌<◌}
use mathlib.Core.Path.{◌≡◌}
use mathlib.Core.Bool.{false}
use mathlib.Core.List.{[], ◌∷◌}
use lib.ListN.{length}
use Rattle.policy.specs.Policy.{Policy}
use Rattle.policy.specs.Value.{words_in}
use Rattle.formula.specs.Truth.{Sets, run}
use Rattle.formula.specs.Inner.Blocks.{AtLane}
use Rattle.formula.specs.Inner.Lane.{in_block, column}
use Rattle.formula.proofs.both.Blocks.where_true.Given as goal

abbrev pub invariant-loop-number : goal.invariant-loop-number
invariant-loop-number l =
    (l.d ≤ l.number-index) × (length l.stack ≡ length l.initial.stack)
    × ((b : ℕ) → b < l.self.count → (p : Policy) (k : ℕ) (s : Sets) → AtLane p l.self b k s
    → column (in_block l.stack l.self.count b) (l.d + 1) k ≡ run p s (words_in l.number-index l.number-items) (false ∷ []))
