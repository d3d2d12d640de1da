-- `formula::both::Blocks::add_paired` meets its contract: the place has what it had, and the user values before v.
use Prim.Native.Nat.{ℕ}
use mathlib.Core.Path.{◌≡◌}
use mathlib.Core.Bool.{◌&&◌, ◌||◌}
use lib.ListN.{get_or}
use Rattle.sets.specs.Set.{has}
use Rattle.words.specs.declared.Holding.TheVariants.{User}
use Rattle.policy.specs.Policy.{Policy}
use Rattle.formula.specs.Truth.{Sets, holds}
use Rattle.formula.specs.Inner.Blocks.{SetsAt}
use Rattle.formula.specs.Inner.Grant.{some, partner_held}
use Rattle.formula.specs.Inner.Lane.{in_block, Placed}
use Rattle.formula.proofs.both.Blocks.add_paired.Given as goal

abbrev pub invariant-loop-v : goal.invariant-loop-v
invariant-loop-v l =
    Placed l.self.count l.i (λ b y. (p : Policy) (k : ℕ) (s : Sets) → SetsAt p l.self b k s → has y k ≡ (has (in_block l.initial.to l.self.count b l.i) k || some (λ u. holds p s (User u) && partner_held p s (get_or l.paired u 0)) l.v)) l.initial.to l.to
