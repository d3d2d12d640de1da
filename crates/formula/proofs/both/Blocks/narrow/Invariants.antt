-- `formula::both::Blocks::narrow` meets its contract, number by number.
use Prim.Native.Nat.{ℕ, ◌<◌}
use mathlib.Core.Path.{◌≡◌}
use mathlib.Core.Bool.{◌&&◌}
use Rattle.sets.specs.Set.{has}
use Rattle.formula.proofs.Placing.{Placing}
use Rattle.formula.specs.Inner.Lane.{lanes, in_block, passes}
use Rattle.formula.proofs.both.Blocks.narrow.Given as goal

abbrev pub invariant-loop-b : goal.invariant-loop-b
invariant-loop-b l = Placing l.start l.b (λ a y. (k : ℕ) → k < lanes → has y k ≡ (has (in_block l.initial.stack l.n a l.to) k && passes l.exact (has (in_block l.objects l.n a l.o) k) (has (in_block l.users l.n a l.u) k))) l.initial.stack l.stack
