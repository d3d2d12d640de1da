-- `formula::both::Blocks::add_paired` meets its contract: the place has what it had, and the user values before v.
use Prim.Native.Nat.{ℕ}
use mathlib.Core.Path.{ap, ◌∙◌}
use mathlib.Core.Bool.{Bool, ◌&&◌}
use mathlib.Core.Bool.{and-false}
use lib.ListN.{get_or}
use Rattle.sets.specs.Set.{has}
use Rattle.words.specs.declared.Holding.TheVariants.{User}
use Rattle.formula.specs.Truth.{holds}
use Rattle.formula.specs.Inner.Grant.{partner_held}
use Rattle.formula.specs.Inner.Lane.{in_block}
use Rattle.formula.proofs.Placing.{placed_same, placed_again, placed_as}
use Rattle.formula.proofs.Pairing.{or_none, some_more, some-passed, none-held}
use Rattle.formula.proofs.both.Blocks.add_paired.Goals as goal
use Rattle.formula.proofs.both.Blocks.add_paired.Goals.{then-set-ne0, else-set-ne0}

pub loop-v-init : goal.loop-v-init
loop-v-init c = placed_same (λ b h p k s x. or_none _ _)

pub loop-v-preserved : goal.loop-v-preserved
loop-v-preserved c =
    let l = c.loop-v in let a = c.args in
    elim c.if-set-ne0.branch [
      | then-set-ne0 t ↦
          rw t.to-is (placed_again l.invariant
          (placed_as t.add_partners.ensures (λ b y h e p k s x.
          e p k s x ∙ some_more (λ u. holds p s (User u) && partner_held p s (get_or a.paired u 0)) l.v (has (in_block a.to.now a.self.now.count b a.i) k) (l.invariant.here b h p k s x))))
      | else-set-ne0 t ↦
          rw t.to-is (placed_as l.invariant (λ b y h e p k s x.
          e p k s x ∙ some-passed (λ u. holds p s (User u) && partner_held p s (get_or a.paired u 0)) l.v (has (in_block a.to.now a.self.now.count b a.i) k)
          (ap (λ (m : ℕ). holds p s (User l.v) && partner_held p s m) t.if-set-ne0.false ∙ ap (λ (z : Bool). holds p s (User l.v) && z) (none-held p s) ∙ and-false (holds p s (User l.v)))))
    ]
