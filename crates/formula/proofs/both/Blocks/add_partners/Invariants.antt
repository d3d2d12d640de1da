-- `formula::both::Blocks::add_partners` meets its contract: the place has what it had, and the object values before w.
use Prim.Native.Nat.{ℕ}
use mathlib.Core.Path.{◌≡◌}
use mathlib.Core.Bool.{◌&&◌, ◌||◌}
use Rattle.sets.specs.Set.{has}
use Rattle.words.specs.declared.Holding.TheVariants.{User, Object}
use Rattle.policy.specs.Policy.{Policy}
use Rattle.formula.specs.Truth.{Sets, holds}
use Rattle.formula.specs.Inner.Blocks.{SetsAt}
use Rattle.formula.specs.Inner.Grant.{some}
use Rattle.formula.specs.Inner.Lane.{in_block, Placed}
use Rattle.formula.proofs.both.Blocks.add_partners.Given as goal

abbrev pub invariant-loop-w : goal.invariant-loop-w
invariant-loop-w l =
    Placed l.self.count l.i (λ b y. (p : Policy) (k : ℕ) (s : Sets) → SetsAt p l.self b k s → has y k ≡ (has (in_block l.initial.to l.self.count b l.i) k || (holds p s (User l.v) && some (λ u. has l.set u && holds p s (Object u)) l.w))) l.initial.to l.to
