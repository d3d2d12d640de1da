-- `formula::both::Blocks::put_passing` meets its contract: the place says where the first q places of the attributes pass.
use Prim.Native.Nat.{ℕ, ◌+◌}
use mathlib.Core.Path.{ap, ap₂, ◌∙◌}
use mathlib.Core.Bool.{Bool}
use Rattle.basis.specs.Numbers.{every}
use Rattle.sets.specs.Set.{has}
use Rattle.seniority.specs.Seniority.{held_or_senior, held_or_junior}
use Rattle.formula.specs.Inner.Lane.{held_as, passes}
use Rattle.formula.proofs.Placing.{placed_same, placed_again, placed_as}
use Rattle.formula.proofs.Vectors.{has-ones, every_more}
use Rattle.formula.proofs.both.Blocks.put_passing.Goals as goal

pub loop-q-init : goal.loop-q-init
unfolding every
loop-q-init c = placed_same (λ b h p k s x. ap (λ (z : ℕ). has z k) (c.fill.ensures.here b h) ∙ has-ones k x.lane)

pub loop-q-preserved : goal.loop-q-preserved
loop-q-preserved c =
    let l = c.loop-q in let a = c.args in
    placed_again l.invariant
    (placed_as c.narrow.ensures (λ b y h e p k s x.
    let f : ℕ → Bool = λ m. passes a.exact (has s.object (a.c + m)) (held_as a.exact (held_or_senior p.user.lines) s.user (a.a + m)) in
    e k x.lane
    ∙ every_more f l.q (l.invariant.here b h p k s x)
    (ap₂ (passes a.exact) (c.vector_of-o.ensures.1 (held_or_junior p.object.lines) _ k s.object x.object)
    (c.vector_of-u.ensures.1 (held_or_senior p.user.lines) _ k s.user x.user))))
