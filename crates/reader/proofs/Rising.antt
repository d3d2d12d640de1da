-- What rises above the last of a list, by the least number that does.
use Rattle.std.specs.Prelude.{Option, None, Some}
use Prim.Native.Nat.{ℕ, suc}
use mathlib.Core.Path.{◌≡◌, refl, sym}
use mathlib.Core.Bool.{true}
use native.Mathlib.Omega.{arith}
use borrow.Author.Tests.{le-leb}
use lib.Dec.{ltb, leb}
use Rattle.basis.specs.Choice.{given}

module _ {A : Type 0} (number : A → ℕ) where
  -- one above the last, or 0 where there is none
  abbrev pub least_after : Option A → ℕ
  least_after o = given o 0 (λ a. suc (number a))

  pub rises-from : (o : Option A) (n : ℕ) → given o true (λ a. ltb (number a) n) ≡ leb (least_after o) n
  rises-from None n = sym (le-leb 0 n (omega arith))
  rises-from (Some a) n = refl
