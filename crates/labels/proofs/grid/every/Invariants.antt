-- `labels::grid::every` meets its contract: each turn puts one set more.
use Prim.Native.Nat.{ℕ, ◌-◌, ◌≤◌, ◌<◌}
use mathlib.Core.Path.{◌≡◌}
use lib.ListN.{length, get_or}
use Rattle.policy.specs.Limits.{most_sets}
use Rattle.labels.proofs.grid.every.Given as goal

abbrev pub invariant-loop-i : goal.invariant-loop-i
invariant-loop-i l = (l.i ≤ l.n) × (length l.r ≡ most_sets) × ((j : ℕ) → j < l.i → get_or l.r j 0 ≡ j)

abbrev pub decreases-loop-i : goal.decreases-loop-i
decreases-loop-i l = l.n - l.i
