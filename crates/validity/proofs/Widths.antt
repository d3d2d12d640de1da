-- The loop over the widths of a side: those before place i pass and sum to t.
use Prim.Native.Nat.{ℕ, ◌+◌, ◌≤◌, ◌<◌}
use mathlib.Core.Path.{◌≡◌, refl, sym, ◌∙◌}
use mathlib.Core.Bool.{Bool, true, false}
use mathlib.Core.List.{List}
use native.Mathlib.Omega.{arith}
use lib.ListN.{length, get_or, drop, drop_of_length-le}
use Rattle.basis.specs.Lists.{sum}
use Rattle.basis.proofs.Walk.{rest-next}
use Rattle.policy.specs.Checks.{width_fits}
use Rattle.policy.specs.Inner.Sound.{widths_sound}
use Rattle.policy.proofs.Bounds.{width_fits_lem}

pub record Summed (most : ℕ) (ws : List ℕ) (t i : ℕ) : Type 0 where
  pub small : t ≤ most
  pub total : sum ws ≡ t + sum (drop i ws)
  pub rest : widths_sound most 0 ws ≡ widths_sound most t (drop i ws)

pub summed_none : {most : ℕ} {ws : List ℕ} → Summed most ws 0 0
summed_none = record { small = omega arith; total = omega arith; rest = refl }

-- a width that passes does not pass the limit
pub sum_bound : (most t w : ℕ) {b : Bool} → b ≡ width_fits most t w → b ≡ true → t + w ≤ most
sum_bound most t w f e = (width_fits_lem most t w (sym f ∙ e)).fits

module _ {most : ℕ} {ws : List ℕ} {t i : ℕ} (q : Summed most ws t i) where
  pub summed_all : length ws ≤ i → (widths_sound most 0 ws ≡ true) × (t ≡ sum ws)
  unfolding widths_sound sum
  summed_all h =
      let e : sum (drop i ws) ≡ 0 = rw (drop_of_length-le ws h) in
      (q.rest ∙ rw (drop_of_length-le ws h), omega (arith, q.total, e))

  module _ (h : i < length ws) {w : ℕ} (is : w ≡ get_or ws i 0) {b : Bool} (f : b ≡ width_fits most t w) where
    pub summed_not : b ≡ false → widths_sound most 0 ws ≡ false
    unfolding widths_sound
    summed_not e = q.rest ∙ rw (rest-next 0 ws i h, ← is, ← f, e)

    pub summed_more : b ≡ true → Summed most ws (t + w) (i + 1)
    unfolding widths_sound sum
    summed_more e =
        let s : sum (drop i ws) ≡ w + sum (drop (i + 1) ws) = rw (rest-next 0 ws i h, ← is) in
        record {
          small = sum_bound most t w f e;
          total = omega (arith, q.total, s);
          rest = q.rest ∙ rw (rest-next 0 ws i h, ← is, ← f, e);
        }
