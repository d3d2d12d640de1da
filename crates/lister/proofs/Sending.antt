-- A chunk stands within its buffer, which keeps its length.
use Prim.Native.Nat.{ℕ, ◌≤◌}
use mathlib.Core.Path.{◌≡◌, ap, ◌∙◌}
use mathlib.Core.List.{List}
use native.Mathlib.Omega.{arith}
use lib.ListN.{length, length-take}
use Rattle.basis.specs.Lists.{over}
use Rattle.basis.proofs.Over.{length_over}
use Rattle.report.specs.Report.{chunk}

module _ (left entry : List ℕ) where
  few : length (chunk (length entry) left) ≤ length entry
  few = omega (arith, length-take (length entry) left)

  module _ {exit : List ℕ} (bytes : exit ≡ over (chunk (length entry) left) entry) where
    pub same-long : length exit ≡ length entry
    same-long = ap length bytes ∙ length_over (chunk (length entry) left) entry few

    pub within : {n : ℕ} → n ≡ length (chunk (length entry) left) → n ≤ length exit
    within number = omega (arith, same-long, few)
