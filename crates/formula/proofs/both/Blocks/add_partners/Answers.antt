-- `formula::both::Blocks::add_partners` meets its contract: the place has what it had, and the object values before w.
use mathlib.Core.Path.{sym, ◌∙◌}
use Rattle.sets.specs.Set.{has}
use Rattle.formula.specs.Inner.Lane.{in_block}
use Rattle.formula.proofs.Placing.{placed_same, placed_again, placed_as}
use Rattle.formula.proofs.Pairing.{partner-none, partner-held, partner-passed}
use Rattle.formula.proofs.both.Blocks.add_partners.Goals as goal
use Rattle.formula.proofs.both.Blocks.add_partners.Goals.{then-holds, else-holds}

pub loop-w-init : goal.loop-w-init
loop-w-init c = placed_same (λ b h p k s x. partner-none p s _ _ _)

pub loop-w-preserved : goal.loop-w-preserved
loop-w-preserved c =
    let l = c.loop-w in let a = c.args in
    elim c.if-holds.branch [
      | then-holds t ↦
          rw t.to-is (placed_again l.invariant
          (placed_as t.add_held.ensures (λ b y h e p k s x.
          e p k s x ∙ partner-held p s a.v a.set l.w (has (in_block a.to.now a.self.now.count b a.i) k) (sym c.holds.ensures ∙ t.if-holds.true) (l.invariant.here b h p k s x))))
      | else-holds t ↦
          rw t.to-is (placed_as l.invariant (λ b y h e p k s x.
          e p k s x ∙ partner-passed p s a.v a.set l.w (has (in_block a.to.now a.self.now.count b a.i) k) (sym c.holds.ensures ∙ t.if-holds.false)))
    ]
