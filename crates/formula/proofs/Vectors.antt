-- Vectors of 64 lanes: what each operation on them does in a lane, which of 64 consecutive sets hold a value, and a
-- line of seniority in every lane at once.
use Prim.Native.Nat.{ℕ, ◌+◌, ◌-◌, ◌*◌, ◌/◌, ◌%◌, ◌^◌, ◌≤◌, ◌<◌}
use mathlib.Core.Path.{◌≡◌, refl, sym, ap, ap₂, ◌∙◌}
use mathlib.Core.Bool.{Bool, true, false, not, ◌&&◌, ◌||◌, and-true, and-false, or-false}
use mathlib.Core.List.{List, [], ◌∷◌}
use native.Mathlib.Decide.{ℕ_discrete}
use native.Mathlib.Nat.{mod-lt, lt_of_lt_of_le}
use native.Mathlib.Numerals.{add-one}
use native.Mathlib.Omega.{arith}
use lib.Bits.{bit_or, bit_xor}
use lib.ListN.{length, get_or, set, length-set}
use lib.Pow.{pow_pos, pow_mono}
use lib.Seq.{get_or-set_same, get_or-set_other}
use borrow.Author.Tests.{eq-eqb, ne_eqb}
use Rattle.basis.specs.Numbers.{every, agree, implies}
use Rattle.basis.proofs.Numbers.{every-at}
use Rattle.basis.proofs.Same.{agree-eq}
use Rattle.basis.proofs.Table.{at}
use Rattle.sets.specs.Set.{has}
use Rattle.sets.proofs.Laws.{differs, has-xor, has-union, has-none, has-mod, has-low, has-high}
use Rattle.sets.proofs.Count.{has-shifted}
use Rattle.seniority.specs.Inner.{extended}
use Rattle.seniority.proofs.Laws.{has-extended}
use Rattle.policy.specs.Limits.{most_values}
use Rattle.formula.specs.Inner.Lane.{lane_bits, lanes, vector_places, within, Plain, Stands, extended_lanes}

-- ---- every lane at once

abbrev pub ones : ℕ
ones = 18446744073709551615

pub has-ones : (k : ℕ) → k < lanes → has ones k ≡ true
unfolding every
has-ones k h = every-at (has ones) lanes refl k h

pub has-not : (x k : ℕ) → k < lanes → has (bit_xor x ones) k ≡ not (has x k)
has-not x k h = has-xor x ones k ∙ ap (differs (has x k)) (has-ones k h)

-- ---- places of a comparison

exactly : (a b : Bool) → not (differs a b) ≡ agree a b
exactly true true = refl
exactly true false = refl
exactly false true = refl
exactly false false = refl

at_least : (a b : Bool) → (not a || b) ≡ implies a b
at_least true b = refl
at_least false b = refl

module _ (x y k : ℕ) (h : k < lanes) where
  pub place-equal : has (bit_xor (bit_xor x y) ones) k ≡ agree (has x k) (has y k)
  place-equal = has-not (bit_xor x y) k h ∙ ap not (has-xor x y k) ∙ exactly (has x k) (has y k)

  pub place-implied : has (bit_or (bit_xor x ones) y) k ≡ implies (has x k) (has y k)
  place-implied = has-union (bit_xor x ones) y k ∙ ap (λ (b : Bool). b || has y k) (has-not x k h) ∙ at_least (has x k) (has y k)

-- one place more passes
pub every_more : (f : ℕ → Bool) (n : ℕ) {a b : Bool} → a ≡ every f n → b ≡ f n → (a && b) ≡ every f (n + 1)
unfolding every
every_more f n p q = rw (add-one n) (ap₂ (λ (a b : Bool). a && b) p q)

-- ---- consecutive sets

abbrev pub lows : List ℕ
lows = 12297829382473034410 ∷ 14757395258967641292 ∷ 17361641481138401520 ∷ 18374966859414961920 ∷ 18446462603027742720 ∷ 18446744069414584320 ∷ []

-- the rule of the table: entry v has bit k where k holds v
lows-rule : (v k : ℕ) → v < lane_bits → k < lanes → has (get_or lows v 0) k ≡ has k v
unfolding every
lows-rule v k hv hk =
    agree-eq (has (get_or lows v 0) k) (has k v)
    (every-at (λ n. agree (has (get_or lows v 0) n) (has n v)) lanes
    (at (λ w x. every (λ n. agree (has x n) (has n w)) lanes) 0 lows refl v hv) k hk)

module _ (b v k : ℕ) (h : k < lanes) where
  pub low-holders : v < lane_bits → has (get_or lows v 0) k ≡ has (b * lanes + k) v
  low-holders l = lows-rule v k l h ∙ sym (has-low b k lane_bits v h l)

  pub high-holders : (x : ℕ) → lane_bits ≤ v → has x k ≡ has b (v - lane_bits) → has x k ≡ has (b * lanes + k) v
  high-holders x l e = e ∙ sym (has-high b k lane_bits v h l)

-- ---- bits of a part of a number

module _ (b k from n v : ℕ) where
  pub bit_past : n ≤ v → has ((b * lanes + k) / 2 ^ from % 2 ^ n) v ≡ false
  bit_past l = has-none n _ v (mod-lt ((b * lanes + k) / 2 ^ from) (pow_pos n)) l

  pub bit_in : v < n → has ((b * lanes + k) / 2 ^ from % 2 ^ n) v ≡ has (b * lanes + k) (from + v)
  bit_in l = has-mod ((b * lanes + k) / 2 ^ from) n v l ∙ has-shifted (b * lanes + k) from v

-- a part of at most as many bits as a side has values
pub set-small : (x from n : ℕ) → n ≤ most_values → x / 2 ^ from % 2 ^ n < 2 ^ most_values
set-small x from n h = lt_of_lt_of_le (mod-lt (x / 2 ^ from) (pow_pos n)) (pow_mono h)

-- ---- the vectors of a side

-- each half has the vectors of the values below v, and P holds of each
pub record Filled (P : ℕ → ℕ → Type 0) (v : ℕ) (r : List ℕ) : Type 0 where
  pub long : length r ≡ vector_places
  pub both : (w : ℕ) → w < v → P w (get_or r w 0) × (get_or r (most_values + w) 0 ≡ get_or r w 0)

pub filled_none : (P : ℕ → ℕ → Type 0) (r : List ℕ) → length r ≡ vector_places → Filled P 0 r
filled_none P r l = record { long = l; both = λ w h. absurd (omega arith) }

-- one vector stored twice
pub filled_next : (P : ℕ → ℕ → Type 0) (v x : ℕ) (r : List ℕ) → v < most_values → Filled P v r → P v x
    → Filled P (v + 1) (set (set r v x) (most_values + v) x)
filled_next P v x r hv old new =
    let l : most_values + v < length (set r v x) = rw length-set (omega (arith, old.long)) in
    record {
      long = rw (length-set, length-set) old.long;
      both = λ w h.
          let o : w ≡ most_values + v → ⊥ = λ e. omega arith in
          elim (ℕ_discrete w v) [
            | yes e ↦
                let q : v < length r = omega (arith, old.long) in
                let n : v ≡ most_values + v → ⊥ = λ f. omega arith in
                rw (e, get_or-set_other (set r v x) (most_values + v) v x 0 n, get_or-set_same r v x 0 q, get_or-set_same (set r v x) (most_values + v) x 0 l)
                (new, refl)
            | no e ↦
                let f : most_values + w ≡ most_values + v → ⊥ = λ q. e (omega arith) in
                let n : most_values + w ≡ v → ⊥ = λ q. omega arith in
                rw (
                  get_or-set_other (set r v x) (most_values + v) w x 0 o,
                  get_or-set_other r v w x 0 e,
                  get_or-set_other (set r v x) (most_values + v) (most_values + w) x 0 f,
                  get_or-set_other r v (most_values + w) x 0 n,
                )
                (old.both w (omega arith))
          ];
    }

-- the second half has become f of the set in each lane
pub record Grown (old new : List ℕ) (f : ℕ → ℕ) : Type 0 where
  pub long : length new ≡ vector_places
  pub same : (v : ℕ) → v < most_values → get_or new v 0 ≡ get_or old v 0
  pub lane : (k s : ℕ) → ((v : ℕ) → v < most_values → has (get_or old (most_values + v) 0) k ≡ has s v)
      → (v : ℕ) → v < most_values → has (get_or new (most_values + v) 0) k ≡ has (f s) v

pub grown_none : (xs : List ℕ) → length xs ≡ vector_places → Grown xs xs (λ s. s)
grown_none xs l = record { long = l; same = λ v h. refl; lane = λ k s e. e }

-- one line more: where value a is held, b is
pub grown_line : (old new : List ℕ) (f g : ℕ → ℕ) (a b : ℕ) → a < most_values → b < most_values → Grown old new f
    → ((s : ℕ) → extended (f s) a b ≡ g s)
    → Grown old (extended_lanes new a b) g
grown_line old new f g a b ha hb x e =
    let y : ℕ = bit_or (get_or new (most_values + b) 0) (get_or new (most_values + a) 0) in
    let l : most_values + b < length new = omega (arith, x.long) in
    record {
      long = rw length-set x.long;
      same = λ v h. let n : v ≡ most_values + b → ⊥ = λ q. omega arith in get_or-set_other new (most_values + b) v y 0 n ∙ x.same v h;
      lane = λ k s p v h.
          let t = x.lane k s p in
          elim (ℕ_discrete v b) [
            | yes q ↦ rw (q, get_or-set_same new (most_values + b) y 0 l) (
                has-union (get_or new (most_values + b) 0) (get_or new (most_values + a) 0) k
                ∙ ap₂ (λ (m n : Bool). m || n) (t b hb) (t a ha)
                ∙ ap (λ (m : Bool). has (f s) b || m) (sym (and-true (has (f s) a)) ∙ ap (λ (m : Bool). has (f s) a && m) (sym (eq-eqb b b refl)))
                ∙ sym (has-extended (f s) a b b) ∙ ap (λ (m : ℕ). has m b) (e s))
            | no q ↦
                let n : most_values + v ≡ most_values + b → ⊥ = λ z. q (omega arith) in
                ap (λ (m : ℕ). has m k) (get_or-set_other new (most_values + b) (most_values + v) y 0 n)
                ∙ t v h
                ∙ sym (or-false (has (f s) v)) ∙ ap (λ (m : Bool). has (f s) v || m) (sym (and-false (has (f s) a)) ∙ ap (λ (m : Bool). has (f s) a && m) (sym (ne_eqb v b q)))
                ∙ sym (has-extended (f s) a b v) ∙ ap (λ (m : ℕ). has m v) (e s)
          ];
    }

-- a lane that held a set stands for it
pub grown_stands : (old new : List ℕ) (f : ℕ → ℕ) (test : ℕ → ℕ → Bool) → Grown old new f
    → ((s v : ℕ) → has (f s) v ≡ test s v) → ((s : ℕ) → s < 2 ^ most_values → (v : ℕ) → most_values ≤ v → test s v ≡ false)
    → (k s : ℕ) → Plain old k s → Stands test (within new) k s
grown_stands old new f test x e none k s p =
    record {
      held = λ v h. ap (λ (y : ℕ). has y k) (x.same v h) ∙ p.held v h;
      taken = λ v h. x.lane k s p.again v h ∙ e s v;
      past = none s p.below;
    }
