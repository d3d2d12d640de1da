-- `formula::blockwise::combine` meets its contract, number by number: those of the next place are left.
use Prim.Native.Nat.{ℕ, ◌+◌, ◌≤◌}
use mathlib.Core.Path.{◌≡◌}
use lib.ListN.{get_or}
use Rattle.sets.specs.Set.{has}
use Rattle.formula.proofs.Placing.{Placing}
use Rattle.formula.specs.Inner.Lane.{in_block, combined}
use Rattle.formula.proofs.blockwise.combine.Given as goal

abbrev pub invariant-loop-b : goal.invariant-loop-b
invariant-loop-b l = (l.b ≤ l.n) × Placing l.start l.b (λ a y. (k : ℕ) → has y k ≡ combined l.both (has (in_block l.initial.to l.n a l.i) k) (has (get_or l.initial.to (l.next + a) 0) k)) l.initial.to l.to
