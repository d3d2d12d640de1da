-- `formula::both::Blocks::add_pairs` meets its contract: the pairs before i have been added, and the others are left.
use Prim.Native.Nat.{ℕ, ◌<◌}
use mathlib.Core.Path.{◌≡◌}
use mathlib.Core.Bool.{◌&&◌}
use lib.Dec.{eqb}
use lib.ListN.{length}
use Rattle.policy.specs.Policy.{Policy}
use Rattle.formula.specs.Truth.{Sets, pair_holds}
use Rattle.formula.specs.Inner.Blocks.{SetsAt}
use Rattle.formula.specs.Inner.Lane.{in_block}
use Rattle.formula.proofs.Pairing.{OrLater, Leads}
use Rattle.formula.proofs.both.Blocks.add_pairs.Given as goal

abbrev pub invariant-loop-pair : goal.invariant-loop-pair
invariant-loop-pair l =
    (length l.granted ≡ length l.initial.granted)
    × ((b : ℕ) → b < l.self.count → (p : Policy) (k : ℕ) (s : Sets) → SetsAt p l.self b k s
    → Leads p s l.pair-items l.pair-index (in_block l.granted l.self.count b) k (λ a. OrLater (λ x. eqb x.action a && pair_holds p s x) l.pair-items 0 (in_block l.initial.granted l.self.count b a) k))
