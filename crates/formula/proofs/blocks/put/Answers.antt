-- `formula::blocks::put` meets its contract: the vectors before v have been put, and the other blocks are left.
use mathlib.Core.Path.{◌∙◌}
use native.Mathlib.Omega.{arith}
use native.Mathlib.Decide.{ℕ_discrete}
use lib.ListN.{length-set}
use Rattle.formula.proofs.Placing.{cell_room, cell-here, cell-above, cell-beside}
use Rattle.formula.proofs.blocks.put.Goals as goal

pub loop-v-preserved : goal.loop-v-preserved
loop-v-preserved c =
    let l = c.loop-v in let a = c.args in
    let h = cell_room a.n a.b l.v c.requires.1 c.requires.0 c.loop-v-test.true in (
      omega arith,
      simp length-set l.invariant.1,
      λ w g. elim (ℕ_discrete w l.v) [
        | yes q ↦ rw q (cell-here a.n a.b l.v _ l.vectors c.requires.0 (omega (arith, h, l.invariant.1)))
        | no q ↦ cell-above a.n a.b l.v _ l.vectors c.requires.0 w q ∙ l.invariant.2 w (omega arith)
      ],
      λ d w g q. cell-beside a.n a.b l.v _ l.vectors c.requires.0 d w g q ∙ l.invariant.3 d w g q,
    )
