-- `labels::whole::fill` meets its contract: the places before row q of blocks have the entries of their numbers, and the
-- lanes of that row stand for the next numbers.
use Prim.Native.Nat.{ℕ, ◌*◌, ◌/◌, ◌%◌, ◌<◌}
use mathlib.Core.Path.{◌≡◌}
use lib.ListN.{length, get_or}
use Rattle.policy.specs.Limits.{most_actions}
use Rattle.policy.specs.Policy.{Policy, sets as sets_of}
use Rattle.formula.specs.Truth.{at}
use Rattle.formula.specs.Inner.Source.{most_blocks, side_vectors}
use Rattle.labels.specs.Compile.{entry_of}
use Rattle.labels.specs.Inner.Grid.{grid_places}
use Rattle.labels.specs.Inner.Rows.{RowsOf}
use Rattle.labels.proofs.whole.fill.Given as goal

-- the entry of the sets that a number stands for
abbrev pub numbered : Policy → ℕ → ℕ
numbered p i = entry_of p (at (i / sets_of p.object) (i % sets_of p.object))

abbrev pub invariant-loop-q : goal.invariant-loop-q
invariant-loop-q l =
    (length l.grid ≡ grid_places) × (length l.users ≡ side_vectors) × (length l.granted ≡ most_actions * most_blocks)
    × ((p : Policy) → RowsOf p l.from → l.places ≡ sets_of p.user * sets_of p.object → (i : ℕ) → i < l.q * l.row → i < l.places → get_or l.grid i 0 ≡ numbered p i)
