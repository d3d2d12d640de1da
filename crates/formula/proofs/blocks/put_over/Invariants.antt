-- `formula::blocks::put_over` meets its contract: the vectors before v have been put.
use Prim.Native.Nat.{ℕ, ◌≤◌, ◌<◌}
use mathlib.Core.Path.{◌≡◌}
use lib.ListN.{length, get_or}
use Rattle.formula.specs.Inner.Lane.{vector_places, in_block}
use Rattle.formula.specs.Inner.Source.{side_vectors}
use Rattle.formula.proofs.blocks.put_over.Given as goal

abbrev pub invariant-loop-v : goal.invariant-loop-v
invariant-loop-v l = (l.v ≤ vector_places) × (length l.vectors ≡ side_vectors) × ((b w : ℕ) → b < l.n → w < l.v → in_block l.vectors l.n b w ≡ get_or l.block w 0)
