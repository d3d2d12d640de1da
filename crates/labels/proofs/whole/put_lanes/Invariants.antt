-- `labels::whole::put_lanes` meets its contract: each turn puts the entries of eight lanes more.
use Prim.Native.Nat.{ℕ, ◌+◌, ◌*◌, ◌<◌}
use mathlib.Core.Path.{◌≡◌}
use lib.ListN.{get_or}
use Rattle.formula.specs.Inner.Group.{group_size}
use Rattle.formula.specs.Inner.Lane.{within}
use Rattle.labels.specs.Inner.Rows.{lane_entry}
use Rattle.labels.proofs.whole.put_lanes.Given as goal

abbrev pub invariant-loop-q : goal.invariant-loop-q
invariant-loop-q l =
    (f : ℕ → ℕ) → ((i : ℕ) → i < l.start → get_or l.initial.places i 0 ≡ f i) → ((k : ℕ) → k < l.count → lane_entry (within l.granted) l.actions k ≡ f (l.start + k))
    → (i : ℕ) → i < l.start + l.q * group_size → i < l.start + l.count → get_or l.places i 0 ≡ f i
