-- `formula::attributes::starts` meets its contract: after i turns the first i + 1 entries are sums of widths, and
-- `next` is the last of them.
use Prim.Native.Nat.{ℕ, ◌+◌, ◌≤◌, ◌<◌}
use mathlib.Core.Path.{◌≡◌}
use lib.ListN.{length, get_or, take}
use Rattle.basis.specs.Lists.{sum}
use Rattle.policy.specs.Limits.{most_values}
use Rattle.formula.proofs.attributes.starts.Given as goal

abbrev pub invariant-loop-i : goal.invariant-loop-i
invariant-loop-i l =
    (l.i ≤ most_values) × (length l.r ≡ most_values + 1) × (l.next ≡ sum (take l.i (take l.n l.widths))) × ((j : ℕ) → j < l.i + 1 → get_or l.r j 0 ≡ sum (take j (take l.n l.widths)))
