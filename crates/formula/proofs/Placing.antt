-- Places of n numbers, one for each block: where they lie, and what is put on one of them number by number.
use Prim.Native.Nat.{ℕ, zero, suc, ◌+◌, ◌*◌, ◌/◌, ◌%◌, ◌≤◌, ◌<◌}
use mathlib.Core.Path.{◌≡◌, refl, sym, ap, ◌∙◌, subst}
use mathlib.Core.Bool.{Bool}
use mathlib.Core.List.{List}
use native.Mathlib.Decide.{ℕ_discrete}
use native.Mathlib.Nat.{mul-one, mul-zero}
use native.Mathlib.Omega.{arith}
use lib.Arith.{digits_lt, digits_div, digits_mod}
use lib.ListN.{length, get_or, set, length-set}
use lib.Seq.{get_or-set_same, get_or-set_other}
use Rattle.sets.specs.Set.{has}
use Rattle.policy.specs.Limits.{most_values}
use Rattle.formula.specs.Inner.Source.{most_blocks, side_vectors}
use Rattle.formula.specs.Inner.Lane.{vector_places, within, in_block, Placed, Stands}

-- ---- where places lie

-- the numbers of place i are there where m places are
pub place-room : (m n i l : ℕ) → m * n ≤ l → i < m → i * n + n ≤ l
place-room m zero i l h g = rw (mul-zero i) (omega arith)
place-room m (suc n) i l h g = let q : n < suc n = omega arith in omega (arith, digits_lt g q, h)

-- the vectors of as many blocks as a side has are there
pub blocks-room : (n : ℕ) → n ≤ most_blocks → vector_places * n ≤ side_vectors
blocks-room n h = omega arith

pub cell_room : (n b v : ℕ) → n ≤ most_blocks → b < n → v < vector_places → v * n + b < side_vectors
cell_room n b v h g l = omega (arith, place-room vector_places n v side_vectors (blocks-room n h) l)

-- the next place lies behind this one
pub next_place : (i n : ℕ) → (i + 1) * n ≡ i * n + n
next_place i n = omega arith

-- places do not meet
module _ (n i j b c : ℕ) (hb : b < n) (hc : c < n) (q : j * n + b ≡ i * n + c) where
  same_place : j ≡ i
  same_place = sym (digits_div j hb) ∙ ap (λ (x : ℕ). x / n) q ∙ digits_div i hc

  same_block : b ≡ c
  same_block = sym (digits_mod j hb) ∙ ap (λ (x : ℕ). x % n) q ∙ digits_mod i hc

-- ---- number by number

-- the numbers from a place on, before the m-th, have been put, and all else is left
pub record Placing (from m : ℕ) (P : ℕ → ℕ → Type 0) (old new : List ℕ) : Type 0 where
  pub long : length new ≡ length old
  pub here : (b : ℕ) → b < m → P b (get_or new (from + b) 0)
  pub kept : (j : ℕ) → ((b : ℕ) → b < m → j ≡ from + b → ⊥) → get_or new j 0 ≡ get_or old j 0

pub placing_none : (from : ℕ) (P : ℕ → ℕ → Type 0) (xs : List ℕ) → Placing from 0 P xs xs
placing_none from P xs = record { long = refl; here = λ b h. absurd (omega arith); kept = λ j h. refl }

module _ {from m : ℕ} {P : ℕ → ℕ → Type 0} {old new : List ℕ} (x : Placing from m P old new) where
  -- what comes is still as it was
  pub still : (j : ℕ) → from + m ≤ j → get_or new j 0 ≡ get_or old j 0
  still j h = x.kept j (λ b g e. omega arith)

  pub placing_next : (y : ℕ) → from + m < length old → P m y → Placing from (m + 1) P old (set new (from + m) y)
  placing_next y l e =
      let g : from + m < length new = rw x.long l in
      record {
        long = rw length-set x.long;
        here = λ b h. elim (ℕ_discrete b m) [
          | yes q ↦ rw (q, get_or-set_same new (from + m) y 0 g) e
          | no q ↦
              let f : from + b ≡ from + m → ⊥ = λ z. q (omega arith) in
              rw (get_or-set_other new (from + m) (from + b) y 0 f) (x.here b (omega arith))
        ];
        kept = λ j h.
            let f : j ≡ from + m → ⊥ = λ z. h m (omega arith) z in
            get_or-set_other new (from + m) j y 0 f ∙ x.kept j (λ b l. h b (omega arith));
      }

pub placing_all : {n i m : ℕ} {P : ℕ → ℕ → Type 0} {old new : List ℕ} → Placing (i * n) m P old new → m ≡ n → Placed n i P old new
placing_all {n} {i} {m} x e =
    record {
      long = x.long;
      here = λ b h. x.here b (omega arith);
      kept = λ b j h q. x.kept (j * n + b) (λ c l r. let g : c < n = omega (arith, l, e) in q (same_place n i j b c h g r));
    }

-- one block's number
pub one-room : {n l : ℕ} (i : ℕ) → n ≡ 1 → i * n + n ≤ l → i < l
one-room i e h = omega (arith, mul-one i, rw e at h)

pub one_same : {n : ℕ} (xs : List ℕ) (i : ℕ) → n ≡ 1 → get_or xs i 0 ≡ in_block xs n 0 i
one_same xs i e = rw e (ap (λ (j : ℕ). get_or xs j 0) (let q = mul-one i in omega arith))

pub placed_one : {n : ℕ} (i x : ℕ) {P : ℕ → ℕ → Type 0} (xs : List ℕ) → n ≡ 1 → i < length xs → P 0 x → Placed n i P xs (set xs i x)
placed_one {n} i x {P} xs e l p =
    let at : i * n + 0 ≡ i = rw e (let q = mul-one i in omega arith) in
    rw at at (placing_all (placing_next (placing_none (i * n) P xs) x (omega (arith, at)) p) (sym e))

-- ---- place by place

pub placed_same : {n i : ℕ} {P : ℕ → ℕ → Type 0} {xs : List ℕ} → ((b : ℕ) → b < n → P b (in_block xs n b i)) → Placed n i P xs xs
placed_same h = record { long = refl; here = h; kept = λ b j l q. refl }

module _ {n i : ℕ} {P Q : ℕ → ℕ → Type 0} {old mid new : List ℕ} where
  -- what was put is worked on
  pub placed_again : Placed n i P old mid → Placed n i Q mid new → Placed n i Q old new
  placed_again x y =
      record {
        long = y.long ∙ x.long;
        here = y.here;
        kept = λ b j h q. y.kept b j h q ∙ x.kept b j h q;
      }

pub placed_as : {n i : ℕ} {P Q : ℕ → ℕ → Type 0} {old new : List ℕ} → Placed n i P old new
    → ((b y : ℕ) → b < n → P b y → Q b y) → Placed n i Q old new
placed_as x f = record { long = x.long; here = λ b h. f b _ h (x.here b h); kept = x.kept }

-- a place put, seen at every place
pub placed_seen : {n i b : ℕ} {P : ℕ → ℕ → Type 0} {old new : List ℕ} (Q : ℕ → ℕ → Type 0) → Placed n i P old new → b < n
    → Q i (in_block new n b i) → ((j : ℕ) → (i ≡ j → ⊥) → Q j (in_block old n b j)) → (j : ℕ) → Q j (in_block new n b j)
placed_seen {n} {i} {b} {new = new} Q x h here old j =
    elim (ℕ_discrete i j) [
      | yes q ↦ subst (λ (a : ℕ). Q a (in_block new n b a)) q here
      | no q ↦ subst (Q j) (sym (x.kept b j h (λ e. q (sym e)))) (old j q)
    ]

-- the number of one block at a place
module _ (n b i x : ℕ) (xs : List ℕ) (h : b < n) where
  pub cell-here : i * n + b < length xs → in_block (set xs (i * n + b) x) n b i ≡ x
  cell-here l = get_or-set_same xs (i * n + b) x 0 l

  pub cell-above : (j : ℕ) → (j ≡ i → ⊥) → in_block (set xs (i * n + b) x) n b j ≡ in_block xs n b j
  cell-above j q = get_or-set_other xs (i * n + b) (j * n + b) x 0 (λ e. q (same_place n i j b b h h e))

  pub cell-beside : (c j : ℕ) → c < n → (c ≡ b → ⊥) → in_block (set xs (i * n + b) x) n c j ≡ in_block xs n c j
  cell-beside c j g q = get_or-set_other xs (i * n + b) (j * n + c) x 0 (λ e. q (same_block n i j c b g h e))

-- ---- vectors

-- a lane of vectors that have the same numbers
pub stands-moved : {grown : ℕ → ℕ → Bool} {f g : ℕ → ℕ} {k s : ℕ} → ((v : ℕ) → v < vector_places → g v ≡ f v)
    → Stands grown f k s → Stands grown g k s
stands-moved {k = k} e x =
    record {
      held = λ v h. ap (λ (y : ℕ). has y k) (e v (omega arith)) ∙ x.held v h;
      taken = λ v h. ap (λ (y : ℕ). has y k) (e (most_values + v) (omega arith)) ∙ x.taken v h;
      past = x.past;
    }

-- one block is its own
pub alone : (xs : List ℕ) (i : ℕ) → in_block xs 1 0 i ≡ within xs i
alone xs i = ap (λ (j : ℕ). get_or xs j 0) (let e = mul-one i in omega arith)
