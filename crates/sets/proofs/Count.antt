-- How many values a set of the first n values has, and the lowest of them: what a count of a number's set digits, and
-- of the zeros below them, says value by value.
use mathlib.Core.Path.{◌≡◌, refl, sym, ap, ap₂, ◌∙◌}
use mathlib.Core.Bool.{true, false, cond}
use Prim.Native.Nat.{ℕ, zero, suc, ◌+◌, ◌/◌, ◌%◌, ◌^◌, ◌<◌}
use native.Mathlib.Nat.{mod-lt, not-suc-le-zero, le_of_suc-le-suc, div-one, div-add-mod'}
use native.Mathlib.Numerals.{add-one, one-add}
use native.Mathlib.Omega.{arith}
use lib.Arith.{lt-one}
use lib.Count.{ones, ones_cat, count_trailing_zeros, under}
use lib.Dec.{eqb, lit<}
use lib.Pow.{pow_pos, shr-shr, shr_lt, split}
use Rattle.basis.specs.Numbers.{count}
use Rattle.basis.proofs.Counting.{count_same}
use Rattle.sets.specs.Set.{has}
use Rattle.sets.proofs.Laws.{has-mod}

-- ---- how many

ones-digit : (d : ℕ) → d < 2 → ones d ≡ d
unfolding ones
ones-digit zero h = refl
ones-digit (suc zero) h = refl
ones-digit (suc (suc d)) h = absurd (omega arith)

digit-counts : (d c : ℕ) → d < 2 → d + c ≡ cond (eqb (d % 2) 1) (suc c) c
digit-counts zero c h = omega arith
digit-counts (suc zero) c h = omega arith
digit-counts (suc (suc d)) c h = absurd (omega arith)

pub ones-counts : (n s : ℕ) → s < 2 ^ n → ones s ≡ count (has s) n
unfolding count ones
ones-counts zero s h = ap ones (lt-one h)
ones-counts (suc n) s h =
    let d : s / 2 ^ n < 2 = shr_lt 1 n (rw one-add h) in
    let l : s % 2 ^ n < 2 ^ n = mod-lt s (pow_pos n) in
    ap ones (sym (split s n)) ∙ ones_cat n (s / 2 ^ n) (s % 2 ^ n) l
    ∙ ap₂ (λ (x y : ℕ). x + y) (ones-digit (s / 2 ^ n) d) (ones-counts n (s % 2 ^ n) l ∙ count_same (has (s % 2 ^ n)) (has s) n (λ v g. has-mod s n v g))
    ∙ digit-counts (s / 2 ^ n) (count (has s) n) d

-- ---- the lowest

-- v is in s, and nothing below v is
pub record Lowest (s v : ℕ) : Type 0 where
  pub held : has s v ≡ true
  pub none : (w : ℕ) → w < v → has s w ≡ false

-- a set shifted down
pub has-shifted : (s n v : ℕ) → has (s / 2 ^ n) v ≡ has s (n + v)
has-shifted s n v = ap (λ (x : ℕ). eqb (x % 2) 1) (shr-shr s n v)

module _ (s : ℕ) where
  has-half : (v : ℕ) → has s (suc v) ≡ has (s / 2) v
  has-half v = rw (← one-add v) (sym (has-shifted s 1 v))

  has_first : has s 0 ≡ eqb (s % 2) 1
  has_first = ap (λ (x : ℕ). eqb (x % 2) 1) (div-one s)

  low-none : (v : ℕ) → s % 2 ≡ 0 → ((w : ℕ) → w < v → has (s / 2) w ≡ false) → (w : ℕ) → w < suc v → has s w ≡ false
  low-none v e f zero h = rw (has_first, e)
  low-none v e f (suc w) h = has-half w ∙ f w (le_of_suc-le-suc h)

  module _ (n t : ℕ) (p : 0 < s) (ih : 0 < s / 2 → (t < n) × Lowest (s / 2) t) where
    low : (d : ℕ) → d < 2 → s % 2 ≡ d → (under d t < suc n) × Lowest s (under d t)
    low zero h e =
        let i = ih (omega (arith, div-add-mod' s 2)) in
        (omega (arith, i.0), record { held = has-half t ∙ i.1.held; none = low-none t e i.1.none })
    low (suc zero) h e = (omega arith, record { held = rw (has_first, e); none = λ w l. absurd (not-suc-le-zero l) })
    low (suc (suc d)) h e = absurd (omega arith)

pub lowest : (n s : ℕ) → 0 < s → s < 2 ^ n → (count_trailing_zeros n s < n) × Lowest s (count_trailing_zeros n s)
unfolding count_trailing_zeros
lowest zero s p h = absurd (omega (arith, lt-one h))
lowest (suc n) s p h =
    low s n (count_trailing_zeros n (s / 2)) p (λ q. lowest n (s / 2) q (shr_lt n 1 (rw add-one h))) (s % 2) (mod-lt s (lit< tt)) refl
