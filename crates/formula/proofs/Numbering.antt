-- Numbers in blocks of 64: how many blocks there are, and which of them share their lowest bits.
use Prim.Native.Nat.{ℕ, ◌+◌, ◌-◌, ◌*◌, ◌/◌, ◌%◌, ◌^◌, ◌≤◌, ◌<◌}
use mathlib.Core.Path.{◌≡◌, sym, ap, ap₂, ◌∙◌}
use mathlib.Core.Logic.{◌⊎◌, inl, inr, ⊎_elim}
use native.Mathlib.Decide.{dec_lt}
use native.Mathlib.Nat.{one-mul, mul_assoc}
use native.Mathlib.Omega.{arith}
use lib.Arith.{digits_lt, digits_div, digits_mod}
use lib.Dec.{lit<}
use lib.Pow.{pow-lt, pow_mono, pow-add, shl_exact, high, low, mod-pow-add, mod-mod-pow}
use Rattle.policy.specs.Limits.{most_values, most_sets}
use Rattle.formula.specs.Inner.Lane.{lane_bits, lanes}
use Rattle.formula.specs.Inner.Source.{blocks_of}

module _ (n : ℕ) where
  pub blocks-one : n < lane_bits → 1 ≡ blocks_of n
  unfolding blocks_of
  blocks-one h = let e : n - lane_bits ≡ 0 = omega arith in rw e

  -- as the code shifts, in a word of w bits
  pub blocks-shifted : (w : ℕ) → n < w → (1 * 2 ^ (n - lane_bits)) % 2 ^ w ≡ blocks_of n
  unfolding blocks_of
  blocks-shifted w h = shl_exact 1 (n - lane_bits) w (lit< tt) (omega arith) ∙ one-mul (2 ^ (n - lane_bits))

  pub blocks-most : (m : ℕ) → n ≤ m → blocks_of n ≤ blocks_of m
  unfolding blocks_of
  blocks-most m h = let l : n - lane_bits ≤ m - lane_bits = omega arith in pow_mono l

  blocks-full : lane_bits ≤ n → blocks_of n * lanes ≡ 2 ^ n
  unfolding blocks_of
  blocks-full h = let e : n - lane_bits + lane_bits ≡ n = omega arith in sym (pow-add 2 (n - lane_bits) lane_bits) ∙ ap (λ (m : ℕ). 2 ^ m) e

  -- one block with room for the numbers, or as many as they fill
  pub blocks-cover : ((blocks_of n ≡ 1) × (2 ^ n < lanes)) ⊎ (blocks_of n * lanes ≡ 2 ^ n)
  blocks-cover = elim (dec_lt n lane_bits) [
    | yes h ↦ inl (sym (blocks-one h), pow-lt h)
    | no h ↦ inr (blocks-full (omega arith))
  ]

  -- the lowest n bits of a number are those of its lane in one of these blocks
  pub block-part : (b k : ℕ) → k < lanes → (b % blocks_of n * lanes + k) % 2 ^ n ≡ (b * lanes + k) % 2 ^ n
  unfolding blocks_of
  block-part b k h =
      let j = n - lane_bits in
      let e : lane_bits - n + n ≡ j + lane_bits = omega arith in
      sym (ap (λ (x : ℕ). x % 2 ^ n)
      (mod-pow-add (b * lanes + k) j lane_bits ∙ ap₂ (λ (x y : ℕ). x % 2 ^ j * lanes + y) (high b lane_bits h) (low b lane_bits h)))
      ∙ ap (λ (m : ℕ). (b * lanes + k) % 2 ^ m % 2 ^ n) (sym e) ∙ mod-mod-pow (b * lanes + k) (lane_bits - n) n

-- the most blocks of a side
pub side-blocks : (n : ℕ) → n ≤ most_values → blocks_of n ≤ most_sets / lanes
unfolding blocks_of
side-blocks n h = blocks-most n most_values h

-- ---- rows of as many blocks as a side has

module _ (n q j k : ℕ) (h : j < blocks_of n) (g : k < lanes) where
  -- the numbers of a row have the same bits from n on
  pub row-high : ((q * blocks_of n + j) * lanes + k) / 2 ^ n ≡ (q * blocks_of n * lanes + k) / 2 ^ n
  row-high =
      ⊎_elim
      (λ t. let e : (q * blocks_of n + j) * lanes + k ≡ q * blocks_of n * lanes + k = omega (arith, t.0) in ap (λ (x : ℕ). x / 2 ^ n) e)
      (λ t.
      let full : q * blocks_of n * lanes ≡ q * 2 ^ n = mul_assoc q (blocks_of n) lanes ∙ ap (λ (x : ℕ). q * x) t in
      let here : j * lanes + k < 2 ^ n = omega (arith, digits_lt h g, t) in
      let low : k < 2 ^ n = omega arith in
      let e : (q * blocks_of n + j) * lanes + k ≡ q * 2 ^ n + (j * lanes + k) = omega (arith, full) in
      ap (λ (x : ℕ). x / 2 ^ n) e ∙ digits_div q here ∙ sym (digits_div q low) ∙ ap (λ (x : ℕ). (x + k) / 2 ^ n) (sym full))
      (blocks-cover n)

  -- and each of its blocks has its own below
  pub row_low : ((q * blocks_of n + j) * lanes + k) % 2 ^ n ≡ (j * lanes + k) % 2 ^ n
  row_low = sym (block-part n (q * blocks_of n + j) k g) ∙ ap (λ (x : ℕ). (x * lanes + k) % 2 ^ n) (digits_mod q h)
