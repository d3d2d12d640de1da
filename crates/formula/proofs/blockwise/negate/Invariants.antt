-- `formula::blockwise::negate` meets its contract, number by number.
use Prim.Native.Nat.{ℕ, ◌≤◌, ◌<◌}
use mathlib.Core.Path.{◌≡◌}
use mathlib.Core.Bool.{not}
use Rattle.sets.specs.Set.{has}
use Rattle.formula.proofs.Placing.{Placing}
use Rattle.formula.specs.Inner.Lane.{lanes, in_block}
use Rattle.formula.proofs.blockwise.negate.Given as goal

abbrev pub invariant-loop-b : goal.invariant-loop-b
invariant-loop-b l = (l.b ≤ l.n) × Placing l.start l.b (λ a y. (k : ℕ) → k < lanes → has y k ≡ not (has (in_block l.initial.to l.n a l.i) k)) l.initial.to l.to
