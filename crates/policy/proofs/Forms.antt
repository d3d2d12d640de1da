-- The limits of a form are within the most of any form, and its number is short.
use Prim.Native.Nat.{ℕ, ◌^◌, ◌≤◌, ◌<◌}
use mathlib.Core.Path.{◌≡◌, refl}
use mathlib.Core.Bool.{Bool, true, false, cond, ◌||◌}
use mathlib.Core.Logic.{⊎_elim}
use native.Mathlib.Omega.{arith}
use lib.Dec.{eqb, lit≤}
use borrow.Author.Tests.{eqb-true}
use Rattle.basis.proofs.Bools.{or_cases}
use Rattle.text.specs.Number.{most_digits}
use Rattle.policy.specs.Limits.{is_form, values, actions, bits, stored_widths, most_values, most_actions}

pub values-most : (form : ℕ) → values form ≤ most_values
unfolding values
values-most form = most (eqb form 3)
  where
    most : (b : Bool) → cond b 9 7 ≤ most_values
    most true = lit≤ tt
    most false = lit≤ tt

pub actions-most : (form : ℕ) → actions form ≤ most_actions
unfolding actions
actions-most form = most (eqb form 1)
  where
    most : (b : Bool) → cond b 8 16 ≤ most_actions
    most true = lit≤ tt
    most false = lit≤ tt

-- an entry has a bit for each action
pub actions-stored : (form : ℕ) → actions form ≤ (stored_widths form).entry
unfolding actions stored_widths
actions-stored form = stored (eqb form 1) (eqb form 3)
  where
    stored : (b c : Bool) → cond b 8 16 ≤ (cond b (bits 8 8) (cond c (bits 16 16) (bits 8 16))).entry
    stored true c = lit≤ tt
    stored false true = lit≤ tt
    stored false false = lit≤ tt

-- a label is below the number of sets of its side
pub values-stored : (form : ℕ) → values form ≤ (stored_widths form).label
unfolding values stored_widths
values-stored form = stored (eqb form 1) (eqb form 3) (λ b c. omega (arith, eqb-true form 1 b, eqb-true form 3 c))
  where
    stored : (b c : Bool) → (b ≡ true → c ≡ true → ⊥) → cond c 9 7 ≤ (cond b (bits 8 8) (cond c (bits 16 16) (bits 8 16))).label
    stored true true e = absurd (e refl refl)
    stored true false e = lit≤ tt
    stored false true e = lit≤ tt
    stored false false e = lit≤ tt

pub form-few : (form : ℕ) → is_form form ≡ true → form < 10 ^ most_digits
form-few form e = ⊎_elim (λ h. omega (arith, eqb-true form 1 h)) later (or_cases (eqb form 1) (eqb form 2 || eqb form 3) e)
  where
    later : (eqb form 2 || eqb form 3) ≡ true → form < 10 ^ most_digits
    later e' =
        ⊎_elim (λ h. omega (arith, eqb-true form 2 h)) (λ h. omega (arith, eqb-true form 3 h)) (or_cases (eqb form 2) (eqb form 3) e')
