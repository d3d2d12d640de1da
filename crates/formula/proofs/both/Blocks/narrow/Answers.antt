-- `formula::both::Blocks::narrow` meets its contract, number by number.
use Prim.Native.Nat.{ℕ}
use mathlib.Core.Path.{ap, ap₂, ◌∙◌}
use mathlib.Core.Bool.{Bool, ◌&&◌}
use native.Mathlib.Omega.{arith}
use Rattle.sets.specs.Set.{has}
use Rattle.sets.proofs.Laws.{has_meet}
use Rattle.formula.proofs.Placing.{still, placing_next, placing_all}
use Rattle.formula.proofs.both.Blocks.narrow.Goals as goal

pub loop-b-preserved : goal.loop-b-preserved
loop-b-preserved c =
    let l = c.loop-b in
    placing_next l.invariant _ (omega (arith, c.requires.2))
    (λ k h. has_meet _ _ k ∙ ap₂ (λ (x y : Bool). x && y) (ap (λ (y : ℕ). has y k) (still l.invariant _ (omega arith))) (c.passing.ensures k h))

pub returns : goal.returns
returns c = placing_all c.loop-b.invariant (omega arith)
