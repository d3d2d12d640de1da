-- The laws of sets as numbers: what each operation does value by value, that a set is its members, and which numbers
-- are sets of the first n values.
use mathlib.Core.Path.{◌≡◌, refl, sym, ap, ap₂, ◌∙◌}
use mathlib.Core.Bool.{Bool, true, false, not, cond, ◌&&◌, ◌||◌, and-true, and-false, or-false}
use mathlib.Core.Logic.{◌↔◌, ⊎_elim}
use Prim.Native.Nat.{ℕ, zero, suc, ◌+◌, ◌-◌, ◌*◌, ◌/◌, ◌%◌, ◌^◌, ◌<◌, ◌≤◌, zero-le}
use native.Mathlib.Nat.{mod-lt, div-eq_of_lt, lt_of_lt_of_le, div-add-mod', div-one, pow-suc, mul-mod_left, mul-div_cancel, one-mul}
use native.Mathlib.Numerals.{one-add, add-one}
use native.Mathlib.Decide.{ℕ_discrete, dec_lt}
use native.Mathlib.Omega.{arith}
use lib.Arith.{lt-one}
use lib.Bits.{bit_or, bit_and, bit_xor, or_shr, or_mod, and_shr, and_mod, xor_shr, xor_mod, or_shifted_r, or_zero_r, and_le_r}
use lib.Dec.{eqb, ltb, lit<, eqb-suc-zero, eqb-zero-suc, eqb-suc-suc}
use lib.Pow.{pow_mono, pow_pos, shr-shr, shr_lt, field, mod-mod-pow, low as lowPart, high as highPart}
use borrow.Author.Tests.{eqb-true, eq-eqb, ne_eqb, lt-ltb, le-ltb}
use Rattle.basis.proofs.Bools.{and_left, and_right, or_cases}
use Rattle.sets.specs.Set.{has, set_of, union, minus, within, mask}

-- ---- value by value

-- an operation that goes digit by digit, and does to two digits what f does to two tests, goes value by value
module _ (op : ℕ → ℕ → ℕ) (f : Bool → Bool → Bool)
    (shr : (a b k : ℕ) → op a b / 2 ^ k ≡ op (a / 2 ^ k) (b / 2 ^ k))
    (low : (a b k : ℕ) → op a b % 2 ^ k ≡ op (a % 2 ^ k) (b % 2 ^ k))
    (neither : eqb (op 0 0) 1 ≡ f false false) (second : eqb (op 0 1) 1 ≡ f false true)
    (first : eqb (op 1 0) 1 ≡ f true false) (both : eqb (op 1 1) 1 ≡ f true true) where
  digit : (x y : ℕ) → x < 2 → y < 2 → eqb (op x y) 1 ≡ f (eqb x 1) (eqb y 1)
  digit zero zero h k = neither
  digit zero (suc zero) h k = second
  digit zero (suc (suc y)) h k = absurd (omega arith)
  digit (suc zero) zero h k = first
  digit (suc zero) (suc zero) h k = both
  digit (suc zero) (suc (suc y)) h k = absurd (omega arith)
  digit (suc (suc x)) y h k = absurd (omega arith)

  by_digit : (a b v : ℕ) → has (op a b) v ≡ f (has a v) (has b v)
  by_digit a b v =
      ap (λ (x : ℕ). eqb (x % 2) 1) (shr a b v) ∙ ap (λ (x : ℕ). eqb x 1) (low (a / 2 ^ v) (b / 2 ^ v) 1)
      ∙ digit (a / 2 ^ v % 2) (b / 2 ^ v % 2) (mod-lt (a / 2 ^ v) (lit< tt)) (mod-lt (b / 2 ^ v) (lit< tt))

pub has-union : (a b v : ℕ) → has (union a b) v ≡ (has a v || has b v)
has-union = by_digit bit_or (λ x y. x || y) or_shr or_mod refl refl refl refl

pub has_meet : (a b v : ℕ) → has (bit_and a b) v ≡ (has a v && has b v)
has_meet = by_digit bit_and (λ x y. x && y) and_shr and_mod refl refl refl refl

abbrev pub differs : Bool → Bool → Bool
differs a true = not a
differs a false = a

pub has-xor : (a b v : ℕ) → has (bit_xor a b) v ≡ differs (has a v) (has b v)
has-xor = by_digit bit_xor differs xor_shr xor_mod refl refl refl refl

less : (a b : Bool) → differs a (a && b) ≡ (a && not b)
less true true = refl
less true false = refl
less false b = refl

pub has-minus : (a b v : ℕ) → has (minus a b) v ≡ (has a v && not (has b v))
has-minus a b v =
    has-xor a (bit_and a b) v ∙ ap (differs (has a v)) (has_meet a b v) ∙ less (has a v) (has b v)

-- nothing at or above a bound
pub has-none : (n s v : ℕ) → s < 2 ^ n → n ≤ v → has s v ≡ false
has-none n s v h l = ap (λ (x : ℕ). eqb (x % 2) 1) (div-eq_of_lt (lt_of_lt_of_le h (pow_mono l)))

pub has-zero : (v : ℕ) → has 0 v ≡ false
has-zero v = has-none 0 0 v (lit< tt) zero-le

has-half : (s v : ℕ) → has s (suc v) ≡ has (s / 2) v
has-half s v = ap (λ (x : ℕ). eqb (s / 2 ^ x % 2) 1) (sym (one-add v)) ∙ ap (λ (x : ℕ). eqb (x % 2) 1) (sym (shr-shr s 1 v))

-- the set of one value
pub has_one : (n v : ℕ) → has (2 ^ n) v ≡ eqb v n
has_one zero zero = refl
has_one zero (suc v) = has-half 1 v ∙ has-zero v ∙ sym (eqb-suc-zero v)
has_one (suc n) zero =
    ap (λ (x : ℕ). eqb (x % 2) 1) (div-one (2 ^ suc n) ∙ pow-suc 2 n) ∙ ap (λ (x : ℕ). eqb x 1) (mul-mod_left (2 ^ n) 2) ∙ sym (eqb-zero-suc n)
has_one (suc n) (suc v) =
    has-half (2 ^ suc n) v ∙ ap (λ (x : ℕ). has (x / 2) v) (pow-suc 2 n) ∙ ap (λ (x : ℕ). has x v) (mul-div_cancel (2 ^ n) (lit< tt))
    ∙ has_one n v ∙ sym (eqb-suc-suc v n)

-- ---- the lowest n values

pub has-mod : (s n v : ℕ) → v < n → has (s % 2 ^ n) v ≡ has s v
has-mod s n v h =
    let e : n ≡ n - suc v + 1 + v = omega arith in
    ap (λ (x : ℕ). eqb (s % 2 ^ x / 2 ^ v % 2) 1) e
    ∙ ap (λ (x : ℕ). eqb (x % 2) 1) (field s (n - suc v + 1) v)
    ∙ ap (λ (x : ℕ). eqb x 1) (mod-mod-pow (s / 2 ^ v) (n - suc v) 1)

-- a number of two parts has the values of its low part below n, and those of its high part from n on
module _ (high low n v : ℕ) (fits : low < 2 ^ n) where
  pub has-low : v < n → has (high * 2 ^ n + low) v ≡ has low v
  has-low h = sym (has-mod (high * 2 ^ n + low) n v h) ∙ ap (λ (x : ℕ). has x v) (lowPart high n fits)

  pub has-high : n ≤ v → has (high * 2 ^ n + low) v ≡ has high (v - n)
  has-high h =
      let e : v ≡ n + (v - n) = omega arith in
      ap (has (high * 2 ^ n + low)) e
      ∙ ap (λ (x : ℕ). eqb (x % 2) 1) (sym (shr-shr (high * 2 ^ n + low) n (v - n)))
      ∙ ap (λ (x : ℕ). has x (v - n)) (highPart high n fits)

-- ---- a set is its members

pub digit-eq : (x y : ℕ) → x < 2 → y < 2 → eqb x 1 ≡ eqb y 1 → x ≡ y
digit-eq zero zero h k e = refl
digit-eq zero (suc zero) h k e = cc
digit-eq zero (suc (suc y)) h k e = omega arith
digit-eq (suc zero) zero h k e = cc
digit-eq (suc zero) (suc zero) h k e = refl
digit-eq (suc zero) (suc (suc y)) h k e = omega arith
digit-eq (suc (suc x)) y h k e = omega arith

alike : (n a b : ℕ) → a < 2 ^ n → b < 2 ^ n → ((v : ℕ) → has a v ≡ has b v) → a ≡ b
alike zero a b ha hb e = lt-one ha ∙ sym (lt-one hb)
alike (suc n) a b ha hb e =
    sym (div-add-mod' a 2)
    ∙ ap₂ (λ (x y : ℕ). x * 2 + y)
    (alike n (a / 2) (b / 2) (shr_lt n 1 (rw add-one ha)) (shr_lt n 1 (rw add-one hb)) (λ v. sym (has-half a v) ∙ e (suc v) ∙ has-half b v))
    (digit-eq (a % 2) (b % 2) (mod-lt a (lit< tt)) (mod-lt b (lit< tt))
    (ap (λ (x : ℕ). eqb (x % 2) 1) (sym (div-one a)) ∙ e 0 ∙ ap (λ (x : ℕ). eqb (x % 2) 1) (div-one b)))
    ∙ div-add-mod' b 2

lt_power : (n : ℕ) → n < 2 ^ n
lt_power zero = lit< tt
lt_power (suc n) = omega (arith, pow-suc 2 n, lt_power n)

pub same_set : (a b : ℕ) → ((v : ℕ) → has a v ≡ has b v) → a ≡ b
same_set a b =
    let m : a ≤ a + b = omega arith in let n : b ≤ a + b = omega arith in
    alike (a + b) a b (lt_of_lt_of_le (lt_power a) (pow_mono m)) (lt_of_lt_of_le (lt_power b) (pow_mono n))

pub same-below : (n a b : ℕ) → a < 2 ^ n → b < 2 ^ n → ((v : ℕ) → v < n → has a v ≡ has b v) → a ≡ b
same-below n a b ha hb e =
    same_set a b (λ v. elim (dec_lt v n) [ yes l ↦ e v l | no l ↦ has-none n a v ha (omega arith) ∙ sym (has-none n b v hb (omega arith)) ])

-- ---- each value of a is in b

absorbed : (a b : Bool) → (a ≡ true → b ≡ true) → (a && b) ≡ a
absorbed true b f = f refl
absorbed false b f = refl

pub within-iff : (a b : ℕ) → (within a b ≡ true) ↔ ((v : ℕ) → has a v ≡ true → has b v ≡ true)
within-iff a b = (
  (λ e v h. and_right (has a v) (has b v) (sym (has_meet a b v) ∙ ap (λ (x : ℕ). has x v) (eqb-true (bit_and a b) a e) ∙ h)),
  (λ f. eq-eqb (bit_and a b) a (same_set (bit_and a b) a (λ v. has_meet a b v ∙ absorbed (has a v) (has b v) (f v)))),
)

-- what is within a set stays so with more of its values and with fewer, and is no greater a number
pub within-union : (a b r : ℕ) → within a r ≡ true → within b r ≡ true → within (union a b) r ≡ true
within-union a b r p q =
    (within-iff (union a b) r).1
    (λ v h. ⊎_elim ((within-iff a r).0 p v) ((within-iff b r).0 q v) (or_cases (has a v) (has b v) (sym (has-union a b v) ∙ h)))

pub within-minus : (a b r : ℕ) → within a r ≡ true → within (minus a b) r ≡ true
within-minus a b r p =
    (within-iff (minus a b) r).1 (λ v h. (within-iff a r).0 p v (and_left (has a v) (not (has b v)) (sym (has-minus a b v) ∙ h)))

pub within-le : (a r : ℕ) → within a r ≡ true → a ≤ r
within-le a r p = omega (arith, and_le_r a r, eqb-true (bit_and a r) a p)

-- ---- the values below n that pass a test

module _ (n s : ℕ) (h : s < 2 ^ n) where
  joined : (b : Bool) → s + cond b (2 ^ n) 0 ≡ union s (cond b (2 ^ n) 0)
  joined true = omega (arith, or_shifted_r 1 n s h, ap (bit_or s) (one-mul (2 ^ n)))
  joined false = omega (arith, or_zero_r s)

  joined-lt : (b : Bool) → s + cond b (2 ^ n) 0 < 2 ^ suc n
  joined-lt true = omega (arith, pow-suc 2 n)
  joined-lt false = omega (arith, pow-suc 2 n)

pub set_of-lt : (f : ℕ → Bool) (n : ℕ) → set_of f n < 2 ^ n
unfolding set_of
set_of-lt f zero = lit< tt
set_of-lt f (suc n) = joined-lt n (set_of f n) (set_of-lt f n) (f n)

has-cond : (b : Bool) (n v : ℕ) → has (cond b (2 ^ n) 0) v ≡ (b && eqb v n)
has-cond true n v = has_one n v
has-cond false n v = has-zero v

pub has-set_of : (f : ℕ → Bool) (n v : ℕ) → v < n → has (set_of f n) v ≡ f v
unfolding set_of
has-set_of f zero v h = absurd (omega arith)
has-set_of f (suc n) v h =
    ap (λ (x : ℕ). has x v) (joined n (set_of f n) (set_of-lt f n) (f n))
    ∙ has-union (set_of f n) (cond (f n) (2 ^ n) 0) v
    ∙ ap (λ (b : Bool). has (set_of f n) v || b) (has-cond (f n) n v)
    ∙ elim (ℕ_discrete v n) [
      | yes p ↦ rw (has-none n (set_of f n) v (set_of-lt f n) (omega arith), eq-eqb v n p, and-true (f n), p)
      | no p ↦ rw (has-set_of f n v (omega arith), ne_eqb v n p, and-false (f n), or-false (f v))
    ]

pub has-set_of-none : (f : ℕ → Bool) (n v : ℕ) → n ≤ v → has (set_of f n) v ≡ false
has-set_of-none f n v h = has-none n (set_of f n) v (set_of-lt f n) h

-- a set of the first n values is the set of those that pass f where it has just these
pub set_of-is : (f : ℕ → Bool) (n s : ℕ) → s < 2 ^ n → ((v : ℕ) → v < n → has s v ≡ f v) → set_of f n ≡ s
set_of-is f n s h e = same-below n (set_of f n) s (set_of-lt f n) h (λ v l. has-set_of f n v l ∙ sym (e v l))

-- two tests that agree below n have the same set
pub set_of-same : (f g : ℕ → Bool) (n : ℕ) → ((v : ℕ) → v < n → f v ≡ g v) → set_of f n ≡ set_of g n
set_of-same f g n h = set_of-is f n (set_of g n) (set_of-lt g n) (λ v l. has-set_of g n v l ∙ sym (h v l))

pub set_of-has : (n s : ℕ) → s < 2 ^ n → set_of (has s) n ≡ s
set_of-has n s h = set_of-is (has s) n s h (λ v l. refl)

-- ---- the first k values

mask-set_of : (k : ℕ) → mask k ≡ set_of (λ v. true) k
unfolding set_of
mask-set_of zero = refl
mask-set_of (suc k) = omega (arith, mask-set_of k, pow-suc 2 k, pow_pos k)

pub has-mask : (k v : ℕ) → has (mask k) v ≡ ltb v k
has-mask k v =
    ap (λ (x : ℕ). has x v) (mask-set_of k)
    ∙ elim (dec_lt v k) [
      | yes l ↦ has-set_of (λ w. true) k v l ∙ sym (lt-ltb v k l)
      | no l ↦ has-set_of-none (λ w. true) k v (omega arith) ∙ sym (le-ltb v k (omega arith))
    ]
