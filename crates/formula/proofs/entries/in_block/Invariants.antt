-- `formula::entries::in_block` meets its contract: the actions before a have their numbers.
use Prim.Native.Nat.{ℕ, ◌≤◌, ◌<◌}
use mathlib.Core.Path.{◌≡◌}
use lib.ListN.{length, get_or}
use Rattle.policy.specs.Limits.{most_actions}
use Rattle.formula.specs.Inner.Lane.{in_block}
use Rattle.formula.proofs.entries.in_block.Given as goal

abbrev pub invariant-loop-a : goal.invariant-loop-a
invariant-loop-a l = (l.a ≤ most_actions) × (length l.r ≡ most_actions) × ((j : ℕ) → j < l.a → get_or l.r j 0 ≡ in_block l.granted l.n l.b j)
