-- `formula::both::Blocks::add_held` meets its contract, number by number.
use Prim.Native.Nat.{ℕ}
use mathlib.Core.Path.{◌≡◌}
use mathlib.Core.Bool.{◌&&◌, ◌||◌}
use Rattle.sets.specs.Set.{has}
use Rattle.words.specs.declared.Holding.TheVariants.{User, Object}
use Rattle.policy.specs.Policy.{Policy}
use Rattle.formula.proofs.Placing.{Placing}
use Rattle.formula.specs.Truth.{Sets, holds}
use Rattle.formula.specs.Inner.Blocks.{SetsAt}
use Rattle.formula.specs.Inner.Lane.{in_block}
use Rattle.formula.proofs.both.Blocks.add_held.Given as goal

abbrev pub invariant-loop-b : goal.invariant-loop-b
invariant-loop-b l = Placing l.start l.b (λ a y. (p : Policy) (k : ℕ) (s : Sets) → SetsAt p l.self a k s → has y k ≡ (has (in_block l.initial.to l.n a l.i) k || (holds p s (User l.v) && holds p s (Object l.w)))) l.initial.to l.to
