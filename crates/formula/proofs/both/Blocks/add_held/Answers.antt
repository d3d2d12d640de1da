-- `formula::both::Blocks::add_held` meets its contract, number by number.
use Prim.Native.Nat.{ℕ}
use mathlib.Core.Path.{ap, ap₂, ◌∙◌}
use mathlib.Core.Bool.{Bool, ◌&&◌, ◌||◌}
use native.Mathlib.Omega.{arith}
use Rattle.sets.specs.Set.{has}
use Rattle.sets.proofs.Laws.{has_meet, has-union}
use Rattle.formula.proofs.Placing.{still, placing_next, placing_all}
use Rattle.formula.proofs.both.Blocks.add_held.Goals as goal

pub loop-b-preserved : goal.loop-b-preserved
loop-b-preserved c =
    let l = c.loop-b in let a = c.args in
    placing_next l.invariant _ (omega (arith, c.requires.2))
    (λ p k s x. has-union _ _ k
    ∙ ap₂ (λ (y z : Bool). y || z) (ap (λ (y : ℕ). has y k) (still l.invariant _ (omega arith)))
    (has_meet _ _ k ∙ ap₂ (λ (y z : Bool). y && z) (x.user.taken a.v c.requires.0) (x.object.taken a.w c.requires.1)))

pub returns : goal.returns
returns c = placing_all c.loop-b.invariant (omega arith)
