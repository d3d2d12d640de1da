-- `formula::blocks::of_side` meets its contract: the blocks before b have the sets of their numbers.
use Prim.Native.Nat.{ℕ, ◌+◌, ◌*◌, ◌%◌, ◌^◌, ◌≤◌, ◌<◌}
use mathlib.Core.Path.{◌≡◌}
use lib.ListN.{length}
use Rattle.policy.specs.Value.{side_of}
use Rattle.formula.specs.Inner.Lane.{lanes, in_block, Stands, grown_by}
use Rattle.formula.specs.Inner.Source.{most_blocks, side_vectors}
use Rattle.formula.proofs.blocks.of_side.Given as goal

abbrev pub invariant-loop-b : goal.invariant-loop-b
invariant-loop-b l =
    (l.b ≤ l.count) × (l.count ≤ most_blocks) × (length l.vectors ≡ side_vectors)
    × ((i k : ℕ) → i < l.b → k < lanes → Stands (grown_by l.user (side_of l.side).lines) (in_block l.vectors l.count i) k ((i * lanes + k) % 2 ^ l.n))
