-- `formula::blockwise::copy` meets its contract, number by number.
use Prim.Native.Nat.{◌≤◌}
use mathlib.Core.Path.{◌≡◌}
use Rattle.formula.proofs.Placing.{Placing}
use Rattle.formula.specs.Inner.Lane.{in_block}
use Rattle.formula.proofs.blockwise.copy.Given as goal

abbrev pub invariant-loop-b : goal.invariant-loop-b
invariant-loop-b l = (l.b ≤ l.n) × Placing l.start l.b (λ a y. y ≡ in_block l.from l.n a l.i) l.initial.to l.to
