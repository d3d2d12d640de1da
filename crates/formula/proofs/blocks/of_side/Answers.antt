-- `formula::blocks::of_side` meets its contract: the blocks before b have the sets of their numbers.
use Prim.Native.Nat.{◌<◌}
use mathlib.Core.Path.{refl}
use native.Mathlib.Omega.{arith}
use native.Mathlib.Nat.{not-suc-le-zero}
use native.Mathlib.Decide.{ℕ_discrete}
use Rattle.formula.proofs.Numbering.{side-blocks}
use Rattle.formula.proofs.Placing.{stands-moved}
use Rattle.formula.proofs.blocks.of_side.Goals as goal

pub loop-b-init : goal.loop-b-init
loop-b-init c = (omega arith, rw c.blocks_of-count.ensures (side-blocks _ c.requires.1), refl, λ i k h. absurd (not-suc-le-zero h))

pub loop-b-preserved : goal.loop-b-preserved
loop-b-preserved c =
    let l = c.loop-b in let x = c.put.ensures in (
      omega arith,
      l.invariant.1,
      x.0,
      λ i k h g. elim (ℕ_discrete i l.b) [
        | yes q ↦ rw q (stands-moved (λ v m. x.1 v m) (c.sets_from-block.ensures k g))
        | no q ↦ let j : i < l.b = omega arith in let r : i < c.blocks_of-count.result = omega arith in stands-moved (λ v m. x.2 i v r q) (l.invariant.3 i k j g)
      ],
    )
