-- `labels::grid::every` meets its contract: each turn puts one set more.
use Prim.Native.Nat.{ℕ}
use mathlib.Core.Path.{◌≡◌, refl}
use native.Mathlib.Nat.{not-suc-le-zero}
use native.Mathlib.Omega.{arith}
use lib.ListN.{length-set, length-replicate}
use Rattle.basis.proofs.Places.{stored_next}
use Rattle.policy.specs.Limits.{most_sets}
use Rattle.labels.proofs.grid.every.Goals as goal

pub loop-i-init : goal.loop-i-init
loop-i-init c = (omega arith, length-replicate {A = ℕ} most_sets 0, λ j h. absurd (not-suc-le-zero h))

pub loop-i-preserved : goal.loop-i-preserved
loop-i-preserved c =
    let l = c.loop-i in
    (omega arith, simp length-set l.invariant.1, stored_next (λ j x. x ≡ j) 0 l.r l.i l.i (omega (arith, l.invariant.1)) l.invariant.2 refl)

pub returns : goal.returns
returns c i h = c.loop-i.invariant.2 i (omega arith)
