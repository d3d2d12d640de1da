-- `formula::blockwise::negate` meets its contract, number by number.
use Prim.Native.Nat.{ℕ}
use mathlib.Core.Path.{ap, ◌∙◌}
use mathlib.Core.Bool.{not}
use native.Mathlib.Omega.{arith}
use lib.ListN.{get_or}
use Rattle.sets.specs.Set.{has}
use Rattle.formula.proofs.Placing.{one-room, one_same, still, placing_next, placing_all, placed_one}
use Rattle.formula.proofs.Vectors.{has-not}
use Rattle.formula.proofs.blockwise.negate.Goals as goal

pub returns-then-n-eq1 : goal.returns-then-n-eq1
returns-then-n-eq1 c =
    let a = c.args in
    placed_one a.i _ a.to.now c.if-n-eq1.true (one-room c.args.i c.if-n-eq1.true c.requires)
    (λ k h. has-not (get_or a.to.now a.i 0) k h ∙ ap (λ (y : ℕ). not (has y k)) (one_same a.to.now a.i c.if-n-eq1.true))

pub loop-b-preserved : goal.loop-b-preserved
loop-b-preserved c =
    let l = c.loop-b in (
      omega arith,
      placing_next l.invariant.1 _ (omega (arith, c.requires)) (λ k h. has-not _ k h ∙ ap (λ (y : ℕ). not (has y k)) (still l.invariant.1 _ (omega arith))),
    )

pub returns : goal.returns
returns c = placing_all c.loop-b.invariant.1 (omega arith)
