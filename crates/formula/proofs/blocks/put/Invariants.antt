-- `formula::blocks::put` meets its contract: the vectors before v have been put, and the other blocks are left.
use Prim.Native.Nat.{ℕ, ◌≤◌, ◌<◌}
use mathlib.Core.Path.{◌≡◌}
use lib.ListN.{length, get_or}
use Rattle.formula.specs.Inner.Lane.{vector_places, in_block}
use Rattle.formula.specs.Inner.Source.{side_vectors}
use Rattle.formula.proofs.blocks.put.Given as goal

abbrev pub invariant-loop-v : goal.invariant-loop-v
invariant-loop-v l =
    (l.v ≤ vector_places) × (length l.vectors ≡ side_vectors)
    × ((w : ℕ) → w < l.v → in_block l.vectors l.n l.b w ≡ get_or l.block w 0)
    × ((c w : ℕ) → c < l.n → (c ≡ l.b → ⊥) → in_block l.vectors l.n c w ≡ in_block l.initial.vectors l.n c w)
