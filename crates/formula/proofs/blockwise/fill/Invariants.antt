-- `formula::blockwise::fill` meets its contract, number by number.
use Prim.Native.Nat.{◌≤◌}
use mathlib.Core.Path.{◌≡◌}
use Rattle.formula.proofs.Placing.{Placing}
use Rattle.formula.proofs.blockwise.fill.Given as goal

abbrev pub invariant-loop-b : goal.invariant-loop-b
invariant-loop-b l = (l.b ≤ l.n) × Placing l.start l.b (λ a y. y ≡ l.x) l.initial.to l.to
