-- `formula::blockwise::combine` meets its contract, number by number: those of the next place are left.
use Prim.Native.Nat.{ℕ, ◌+◌}
use mathlib.Core.Path.{sym, ap, ap₂, ◌∙◌}
use native.Mathlib.Omega.{arith}
use lib.ListN.{get_or}
use Rattle.sets.specs.Set.{has}
use Rattle.formula.proofs.Placing.{next_place, still, placing_next, placing_all, placed_as}
use Rattle.formula.specs.Inner.Lane.{in_block, combined}
use Rattle.formula.proofs.blockwise.combine.Goals as goal

pub loop-b-preserved : goal.loop-b-preserved
loop-b-preserved c =
    let l = c.loop-b in let a = c.args in (
      omega arith,
      placing_next l.invariant.1 _ (omega (arith, c.requires, next_place a.i a.n))
          (λ k. c.taken_together-in-loop-b.ensures k
          ∙ ap₂ (λ (x y : ℕ). combined a.both (has x k) (has y k)) (still l.invariant.1 _ (omega arith)) (still l.invariant.1 _ (omega arith))),
    )

pub returns : goal.returns
returns c =
    let a = c.args in
    placed_as (placing_all c.loop-b.invariant.1 (omega arith))
    (λ b y h e k. e k ∙ ap (λ (j : ℕ). combined a.both (has (in_block a.to.now a.n b a.i) k) (has (get_or a.to.now (j + b) 0) k)) (sym (next_place a.i a.n)))
