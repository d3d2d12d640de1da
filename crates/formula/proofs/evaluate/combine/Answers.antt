-- `formula::evaluate::combine` meets its contract: below the lowest place lies false.
use Prim.Native.Nat.{ℕ, ◌-◌}
use mathlib.Core.Path.{refl, sym, ap, ◌∙◌}
use mathlib.Core.Bool.{Bool, false}
use native.Mathlib.Omega.{arith}
use Rattle.sets.specs.Set.{has}
use Rattle.sets.proofs.Laws.{has-zero}
use Rattle.formula.specs.Inner.Lane.{in_block, combined}
use Rattle.formula.proofs.Stack.{taken-lowest, taken-lower}
use Rattle.formula.proofs.evaluate.combine.Goals as goal

pub returns-then-both : goal.returns-then-both
returns-then-both c = (
  omega arith,
  c.fill.ensures.long,
  λ b k h.
      let a = c.args in
      taken-lowest (in_block a.stack.now a.n b) _ a.d k a.both c.if-d-eq0.true
      (ap (λ (y : ℕ). has y k) (c.fill.ensures.here b h) ∙ has-zero k
      ∙ sym (ap (λ (t : Bool). combined t false (has (in_block a.stack.now a.n b 0) k)) c.if-both.true)),
)

pub returns-else-both : goal.returns-else-both
returns-else-both c = (
  omega arith,
  refl,
  λ b k h.
      let a = c.args in
      taken-lowest (in_block a.stack.now a.n b) _ a.d k a.both c.if-d-eq0.true
      (sym (ap (λ (t : Bool). combined t false (has (in_block a.stack.now a.n b 0) k)) c.if-both.false)),
)

pub returns : goal.returns
returns c =
    let x = c.combine.ensures in (
      omega arith,
      x.long,
      λ b k h.
          let a = c.args in
          taken-lower (in_block a.stack.now a.n b) _ a.d k a.both (a.d - 1) (omega (arith, c.if-d-eq0.false)) (x.here b h k)
          (λ i l. x.kept b i h (λ e. omega arith)),
    )
