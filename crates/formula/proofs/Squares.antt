-- Squares of eight by eight bits: what a swap does bit by bit, that three of them turn a square, and rows put together
-- and taken out.
use Prim.Native.Nat.{ℕ, ◌+◌, ◌-◌, ◌*◌, ◌/◌, ◌%◌, ◌^◌, ◌≤◌, ◌<◌}
use mathlib.Core.Path.{◌≡◌, refl, sym, ap, ap₂, subst, ◌∙◌}
use mathlib.Core.Bool.{Bool, true, false, cond, ◌&&◌, false≢true}
use native.Mathlib.Decide.{ℕ_discrete, dec_le}
use native.Mathlib.Nat.{mod-lt, div-eq_of_lt, add-zero, lt_of_lt_of_le}
use native.Mathlib.Omega.{arith}
use lib.Bits.{bit_and, bit_or, bit_xor, or_shifted_r, or_lt}
use lib.Dec.{eqb, ltb, lit<, lit≤}
use lib.Pow.{pow_pos, pow_mono, shl_exact, shl_lt}
use borrow.Author.Tests.{eqb-true, ltb-true}
use Rattle.basis.specs.Numbers.{every}
use Rattle.basis.proofs.Bools.{and_left, and_right}
use Rattle.basis.proofs.Numbers.{every-at}
use Rattle.sets.specs.Set.{has, set_of}
use Rattle.sets.proofs.Laws.{differs, has-xor, has_meet, has-zero, has-mod, has-low, has-high, set_of-is}
use Rattle.sets.proofs.Count.{has-shifted}
use Rattle.formula.specs.Inner.Lane.{lanes, entry_bits}
use Rattle.formula.specs.Inner.Group.{group_size, grouped}
use Rattle.formula.specs.Inner.Square.{swap_from, row_of}
use Rattle.formula.proofs.Grouping.{one-group, two-groups}

-- ---- a number shifted up

module _ (x n p : ℕ) where
  plain : x * 2 ^ n + 0 ≡ x * 2 ^ n
  plain = add-zero (x * 2 ^ n)

  has-shifted-up : n ≤ p → has (x * 2 ^ n) p ≡ has x (p - n)
  has-shifted-up h = ap (λ (y : ℕ). has y p) (sym plain) ∙ has-high x 0 n p (pow_pos n) h

  has-shifted-none : p < n → has (x * 2 ^ n) p ≡ false
  has-shifted-none h = ap (λ (y : ℕ). has y p) (sym plain) ∙ has-low x 0 n p (pow_pos n) h ∙ has-zero p

-- ---- a swap

twice : (a b : Bool) → (differs a (differs a b) ≡ b) × (differs a (differs b a) ≡ b)
twice true true = (refl, refl)
twice true false = (refl, refl)
twice false true = (refl, refl)
twice false false = (refl, refl)

-- a bit that the mask has comes from above, one whose partner it has from below
moved : (f : ℕ → Bool) (m n : Bool) (up down p : ℕ) → (m && n) ≡ false
    → differs (differs (f p) (m && differs (f p) (f up))) (n && differs (f down) (f p)) ≡ f (cond m up (cond n down p))
moved f true true up down p e = absurd (false≢true (sym e))
moved f true false up down p e = (twice (f p) (f up)).0
moved f false true up down p e = (twice (f p) (f down)).1
moved f false false up down p e = refl

module _ (x by mask : ℕ) (apart : bit_and mask (mask * 2 ^ by) ≡ 0) where
  -- the bits of the mask that are unlike their partners
  unlike : ℕ
  unlike = bit_and mask (bit_xor x (x / 2 ^ by))

  has-unlike : (p : ℕ) → has unlike p ≡ (has mask p && differs (has x p) (has x (by + p)))
  unfolding unlike
  has-unlike p =
      has_meet mask (bit_xor x (x / 2 ^ by)) p
      ∙ ap (λ (b : Bool). has mask p && b) (has-xor x (x / 2 ^ by) p ∙ ap (differs (has x p)) (has-shifted x by p))

  has-partner : (p : ℕ) → has (unlike * 2 ^ by) p ≡ (has (mask * 2 ^ by) p && differs (has x (p - by)) (has x p))
  has-partner p = elim (dec_le by p) [
    | yes l ↦
        let e : by + (p - by) ≡ p = omega arith in
        has-shifted-up unlike by p l ∙ has-unlike (p - by)
        ∙ ap₂ (λ (a b : Bool). a && b) (sym (has-shifted-up mask by p l)) (ap (λ (n : ℕ). differs (has x (p - by)) (has x n)) e)
    | no l ↦
        let h : p < by = omega arith in
        has-shifted-none unlike by p h ∙ ap (λ (a : Bool). a && differs (has x (p - by)) (has x p)) (sym (has-shifted-none mask by p h))
  ]

  pub swap_bit : (p : ℕ) → p < lanes
      → has (bit_xor (bit_xor x (bit_and mask (bit_xor x (x / 2 ^ by)))) (bit_and mask (bit_xor x (x / 2 ^ by)) * 2 ^ by % 2 ^ 64)) p ≡ has x (swap_from by mask p)
  unfolding swap_from unlike
  swap_bit p h =
      has-xor (bit_xor x unlike) (unlike * 2 ^ by % 2 ^ 64) p
      ∙ ap₂ differs (has-xor x unlike p ∙ ap (differs (has x p)) (has-unlike p)) (has-mod (unlike * 2 ^ by) 64 p h ∙ has-partner p)
      ∙ moved (has x) (has mask p) (has (mask * 2 ^ by) p) (by + p) (p - by) p
      (sym (has_meet mask (mask * 2 ^ by) p) ∙ ap (λ (y : ℕ). has y p) apart ∙ has-zero p)

-- ---- three swaps

abbrev ones : ℕ → ℕ
ones = swap_from 7 47851476196393130

abbrev twos : ℕ → ℕ
twos = swap_from 14 225176545447116

abbrev fours : ℕ → ℕ
fours = swap_from 28 4042322160

-- bit j of row i comes from bit i of row j, by places of the square
turns : ℕ → ℕ → Bool
turns i j =
    let p = fours (group_size * i + j) in
    ltb p lanes && (ltb (twos p) lanes && eqb (ones (twos p)) (group_size * j + i))

all-turn : every (λ i. every (turns i) group_size) group_size ≡ true
unfolding every swap_from turns
all-turn = refl

module _ (x s t r : ℕ) (first : (p : ℕ) → p < lanes → has s p ≡ has x (ones p)) (second : (p : ℕ) → p < lanes → has t p ≡ has s (twos p))
    (third : (p : ℕ) → p < lanes → has r p ≡ has t (fours p)) (i j : ℕ) (hi : i < group_size) (hj : j < group_size) where
  pub turned_bit : has r (group_size * i + j) ≡ has x (group_size * j + i)
  unfolding turns
  turned_bit =
      let p = group_size * i + j in
      let u = fours p in
      let e : turns i j ≡ true = every-at (turns i) group_size (every-at (λ k. every (turns k) group_size) group_size all-turn i hi) j hj in
      let f = and_right (ltb u lanes) _ e in
      third p (omega arith)
      ∙ second u (ltb-true u lanes (and_left (ltb u lanes) _ e))
      ∙ first (twos u) (ltb-true (twos u) lanes (and_left (ltb (twos u) lanes) _ f))
      ∙ ap (has x) (eqb-true (ones (twos u)) (group_size * j + i) (and_right (ltb (twos u) lanes) _ f))

-- ---- rows put together

-- the first n rows have the bits that f says, and there are no more
pub record Rows (f : ℕ → ℕ → Bool) (n r : ℕ) : Type 0 where
  pub small : r < 2 ^ (group_size * n)
  pub bits : (a j : ℕ) → a < n → j < group_size → has r (group_size * a + j) ≡ f a j

pub rows_none : (f : ℕ → ℕ → Bool) → Rows f 0 0
rows_none f = record { small = lit< tt; bits = λ a j h. absurd (omega arith) }

pub rows_next : (f : ℕ → ℕ → Bool) (n r row : ℕ) → n < group_size → Rows f n r → row < 2 ^ group_size → ((j : ℕ) → j < group_size → has row j ≡ f n j)
    → Rows f (n + 1) (bit_or r (row * 2 ^ (group_size * n) % 2 ^ 64))
rows_next f n r row h R l e =
    let m = group_size * n in
    let q : row * 2 ^ m % 2 ^ 64 ≡ row * 2 ^ m = shl_exact group_size m 64 l (omega arith) in
    let s : group_size + m ≡ group_size * (n + 1) = omega arith in
    let w : m ≤ group_size + m = omega arith in
    let o = or_shifted_r row m r R.small in
    rw q (record {
      small = subst (λ (k : ℕ). bit_or r (row * 2 ^ m) < 2 ^ k) s
          (or_lt (group_size + m) r (row * 2 ^ m) (lt_of_lt_of_le R.small (pow_mono w)) (shl_lt group_size m l));
      bits = λ a j b g. rw o (elim (ℕ_discrete a n) [
        | yes p ↦
            let k : group_size * a + j - m ≡ j = omega arith in
            has-high row r m (group_size * a + j) R.small (omega arith) ∙ ap (has row) k ∙ e j g ∙ ap (λ (i : ℕ). f i j) (sym p)
        | no p ↦ has-low row r m (group_size * a + j) R.small (omega arith) ∙ R.bits a j (omega arith) g
      ]);
    })

-- the row of eight lanes of a vector
pub has_part : (x q j : ℕ) → j < group_size → has (x / 2 ^ (group_size * q) % 2 ^ group_size) j ≡ has x (group_size * q + j)
has_part x q j h = has-mod (x / 2 ^ (group_size * q)) group_size j h ∙ has-shifted x (group_size * q) j

-- ---- rows taken out

module _ (x j : ℕ) where
  pub row_lt : row_of x j < 2 ^ group_size
  row_lt = mod-lt (x / 2 ^ (group_size * j)) (pow_pos group_size)

  pub row-set : (f : ℕ → Bool) → ((a : ℕ) → a < group_size → has x (group_size * j + a) ≡ f a) → row_of x j ≡ set_of f group_size
  row-set f h = sym (set_of-is f group_size (row_of x j) row_lt (λ a l. has_part x j a l ∙ h a l))

-- the rows of lane j as its entry: actions that fit one square, or more
module _ (f : ℕ → Bool) (low j n : ℕ) (ql : (a : ℕ) → a < group_size → has low (group_size * j + a) ≡ f (0 + a)) where
  pub one-square : n ≤ group_size → row_of low j + row_of 0 j * 2 ^ group_size ≡ set_of f (grouped n)
  one-square h =
      let z : row_of 0 j ≡ 0 = ap (λ (x : ℕ). x % 2 ^ group_size) (div-eq_of_lt (pow_pos (group_size * j))) in
      ap (λ (x : ℕ). row_of low j + x * 2 ^ group_size) z ∙ add-zero (row_of low j)
      ∙ one-group f (row-set low j (λ a. f (0 + a)) ql) n h

  pub two-squares : (high : ℕ) → ((a : ℕ) → a < group_size → has high (group_size * j + a) ≡ f (group_size + a)) → group_size < n
      → row_of low j + row_of high j * 2 ^ group_size ≡ set_of f (grouped n)
  two-squares high qh h =
      ap (λ (x : ℕ). row_of low j + x) (sym (shl_exact group_size group_size entry_bits (row_lt high j) (lit≤ tt)))
      ∙ two-groups f (row-set low j (λ a. f (0 + a)) ql) (row-set high j (λ a. f (group_size + a)) qh) n h
