-- `labels::whole::put_blocks` meets its contract: each turn puts the entries of one block more.
use Prim.Native.Nat.{ℕ, ◌+◌, ◌*◌, ◌<◌}
use mathlib.Core.Path.{◌≡◌}
use lib.ListN.{get_or}
use Rattle.formula.specs.Inner.Lane.{lanes, in_block}
use Rattle.labels.specs.Inner.Rows.{lane_entry}
use Rattle.labels.proofs.whole.put_blocks.Given as goal

abbrev pub invariant-loop-b : goal.invariant-loop-b
invariant-loop-b l =
    (f : ℕ → ℕ) → ((i : ℕ) → i < l.start → get_or l.initial.places i 0 ≡ f i) → ((a k : ℕ) → a < l.n → k < lanes → a * lanes + k < l.count → lane_entry (in_block l.granted l.n a) l.actions k ≡ f (l.start + (a * lanes + k)))
    → (i : ℕ) → i < l.start + l.b * lanes → i < l.start + l.count → get_or l.places i 0 ≡ f i
