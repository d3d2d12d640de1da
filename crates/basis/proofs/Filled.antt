-- A buffer that is filled from its start, one place a turn, with f 0, f 1, ..: after k turns it has the first k of
-- these at its start, and what lies past them stays.
use Prim.Native.Nat.{ℕ, zero, suc, ◌+◌, ◌-◌, ◌*◌, ◌/◌, ◌%◌, ◌≤◌, ◌<◌}
use mathlib.Core.Path.{◌≡◌, refl, sym, ap, ◌∙◌}
use mathlib.Core.List.{List}
use native.Mathlib.Decide.{dec_lt}
use native.Mathlib.Nat.{mul-zero, mod-lt, div-lt_iff_lt-mul}
use native.Mathlib.Omega.{arith}
use lib.ListN.{length, get_or, set, length-set, length-append, length-drop, get_or-append}
use lib.Seq.{get_or-set_other, get_or-append-add, get_or-drop, ext_get_or}
use borrow.Author.Count.{below_none}
use Rattle.basis.specs.Lists.{over}
use Rattle.basis.specs.Numbers.{up_to}
use Rattle.basis.proofs.Counting.{length-up_to, get_or-up_to}
use Rattle.basis.proofs.Places.{stored_next}

pub record Filled (f : ℕ → ℕ) (k : ℕ) (old xs : List ℕ) : Type 0 where
  pub size : length xs ≡ length old
  pub done : (i : ℕ) → i < k → get_or xs i 0 ≡ f i
  pub rest : (i : ℕ) → k ≤ i → get_or xs i 0 ≡ get_or old i 0

pub filled_none : (f : ℕ → ℕ) (old : List ℕ) → Filled f 0 old old
filled_none f old = record { size = refl; done = below_none _; rest = λ i h. refl }

pub filled_more : {f : ℕ → ℕ} {k x : ℕ} {old xs : List ℕ} → Filled f k old xs → k < length old → x ≡ f k → Filled f (k + 1) old (set xs k x)
filled_more {f} {k} {x} {old} {xs} F h q =
    let s = F.size in
    record {
      size = simp length-set s;
      done = stored_next (λ i y. y ≡ f i) 0 xs k x (omega arith) F.done q;
      rest = λ i l. get_or-set_other xs k i x 0 (omega arith) ∙ F.rest i (omega arith);
    }

-- the same count, or the same values, written otherwise
pub filled-count : {f : ℕ → ℕ} {k n : ℕ} {old xs : List ℕ} → Filled f k old xs → k ≡ n → Filled f n old xs
filled-count F q = rw (← q) F

pub filled-same : {f g : ℕ → ℕ} {k : ℕ} {old xs : List ℕ} → Filled f k old xs → ((i : ℕ) → i < k → f i ≡ g i) → Filled g k old xs
filled-same F h = record { size = F.size; done = λ i l. F.done i l ∙ h i l; rest = F.rest }

-- so it is the buffer with the result at its start
pub filled-over : {f : ℕ → ℕ} {k : ℕ} {old xs : List ℕ} → Filled f k old xs → k ≤ length old → xs ≡ over (up_to f k) old
unfolding over
filled-over {f} {k} {old} {xs} F h =
    let s = F.size in
    let n = length-up_to f k in
    ext_get_or 0 xs _ (simp (length-append, length-drop) (omega arith)) (λ i b. elim (dec_lt i k) [
      | yes l ↦ F.done i l ∙ sym (get_or-append (up_to f k) _ 0 i (omega arith) ∙ get_or-up_to f k i 0 l)
      | no l ↦
          let e : i ≡ length (up_to f k) + (i - k) = omega arith in
          let t : length (up_to f k) + (i - k) ≡ i = omega arith in
          F.rest i (omega arith)
          ∙ sym (ap (λ (j : ℕ). get_or (over (up_to f k) old) j 0) e
          ∙ get_or-append-add (up_to f k) _ (i - k) 0 ∙ get_or-drop _ old (i - k) 0 ∙ ap (λ (j : ℕ). get_or old j 0) t)
    ])

-- ---- rows of n

-- a place of m rows is in one of them
pub in_row : (m n i : ℕ) → i < m * n → (i / n < m) × (i % n < n)
in_row m zero i h = let z = mul-zero m in absurd (omega arith)
in_row m (suc n) i h = let p : 0 < suc n = omega arith in ((div-lt_iff_lt-mul p).1 h, mod-lt i p)

-- ---- from one place to another: what was filled up to a before is filled up to b now

pub record Further (f : ℕ → ℕ) (a b : ℕ) (before xs : List ℕ) : Type 0 where
  pub size : length xs ≡ length before
  pub filled : (old : List ℕ) → Filled f a old before → Filled f b old xs

pub further-none : (f : ℕ → ℕ) (a : ℕ) (xs : List ℕ) → Further f a a xs xs
further-none f a xs = record { size = refl; filled = λ old F. F }

pub further-more : {f : ℕ → ℕ} {a b k x : ℕ} {before xs : List ℕ} → Further f a b before xs → k ≡ b → b < length xs → x ≡ f b
    → Further f a (b + 1) before (set xs k x)
further-more {xs = xs} R q h e =
    let s = R.size in
    rw q (record { size = simp length-set s; filled = λ old F. let G = R.filled old F in let t = G.size in filled_more G (omega arith) e })

pub further-count : {f : ℕ → ℕ} {a b n : ℕ} {before xs : List ℕ} → Further f a b before xs → b ≡ n → Further f a n before xs
further-count R q = rw (← q) R
