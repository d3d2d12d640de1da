-- Laws of `first`, `count`, `select` and `up_to`, by induction on the bound.
use Prim.Native.Nat.{ℕ, zero, suc, ◌+◌, ◌≤◌, ◌<◌, zero-le}
use mathlib.Core.Path.{◌≡◌, refl, sym, ap, ◌∙◌}
use mathlib.Core.Bool.{Bool, true, false, cond, true≢false}
use mathlib.Core.Logic.{◌↔◌, ⊎_elim}
use mathlib.Core.List.Memᴰ
use mathlib.Core.List.{[], ◌∷◌, ◌++◌, append-nil, Memᴰ}
use native.Mathlib.Nat.{le_refl, le_of_suc-le-suc, not-suc-le-zero, eq-or-lt_of_le, add-zero, add-suc}
use native.Mathlib.Numerals.{add-one}
use native.Mathlib.Decide.{le_ind}
use native.Mathlib.Omega.{arith}
use lib.ListN.{length, get_or, length-append, get_or-append}
use lib.Seq.{get_or_at}
use Rattle.basis.specs.Numbers.{first, count, select, up_to}
use Rattle.basis.proofs.Bools.{never}

-- ---- first

-- r is the least number below n at which the test passes, or n where there is none
pub record Least (f : ℕ → Bool) (n r : ℕ) : Type 0 where
  pub within : r ≤ n
  pub before : (k : ℕ) → k < r → f k ≡ false
  pub hit : r < n → f r ≡ true

least_at : (f : ℕ → Bool) (n r : ℕ) → Least (λ k. f (suc k)) n r → (b : Bool) → f zero ≡ b → Least f (suc n) (cond b zero (suc r))
least_at f n r ih true e = record { within = zero-le; before = λ k h. absurd (not-suc-le-zero h); hit = λ h. e }
least_at f n r ih false e = record { within = omega arith; before = earlier; hit = λ h. ih.hit (le_of_suc-le-suc h) }
  where
    earlier : (k : ℕ) → k < suc r → f k ≡ false
    earlier zero h = e
    earlier (suc k) h = ih.before k (le_of_suc-le-suc h)

pub first-least : (f : ℕ → Bool) (n : ℕ) → Least f n (first f n)
unfolding first
first-least f zero = record { within = zero-le; before = λ k h. absurd (not-suc-le-zero h); hit = λ h. absurd (not-suc-le-zero h) }
first-least f (suc n) = least_at f n _ (first-least (λ k. f (suc k)) n) (f zero) refl

-- and nothing else is
pub first-is : (f : ℕ → Bool) (n r : ℕ) → Least f n r → first f n ≡ r
first-is f n r l =
    let s = first-least f n in
    let a : ¬ (first f n < r) = λ h. never (f (first f n)) (s.hit (omega arith)) (l.before _ h) in
    let b : ¬ (r < first f n) = λ h. never (f r) (l.hit (omega arith)) (s.before r h) in
    omega arith

-- tests that agree have the same first number
pub first-same : (f g : ℕ → Bool) (n : ℕ) → ((k : ℕ) → k < n → f k ≡ g k) → first f n ≡ first g n
first-same f g n h =
    let s = first-least g n in
    first-is f n (first g n)
    (record { within = s.within; before = λ k l. h k (omega (arith, s.within)) ∙ s.before k l; hit = λ l. h _ l ∙ s.hit l })

-- ---- count

count-step : (b : Bool) (c : ℕ) → c ≤ cond b (suc c) c
count-step true c = omega arith
count-step false c = omega arith

pub count-mono : (f : ℕ → Bool) (a b : ℕ) → a ≤ b → count f a ≤ count f b
unfolding count
count-mono f a = le_ind (λ (n : ℕ). count f a ≤ count f n) (le_refl _) (λ n l ih. let s = count-step (f n) (count f n) in omega arith)

pub count-strict : (f : ℕ → Bool) (a b : ℕ) → f a ≡ true → a < b → count f a < count f b
unfolding count
count-strict f a b e h =
    let s : count f (suc a) ≡ suc (count f a) = rw e in
    let l : count f (suc a) ≤ count f b = count-mono f (suc a) b h in
    omega arith

-- a test that passes wherever another does counts at least as much
count-under-at : (a b : Bool) (c d : ℕ) → (a ≡ true → b ≡ true) → c ≤ d → cond a (suc c) c ≤ cond b (suc d) d
count-under-at true true c d i h = omega arith
count-under-at true false c d i h = absurd (true≢false (sym (i refl)))
count-under-at false true c d i h = omega arith
count-under-at false false c d i h = h

pub count_under : (f g : ℕ → Bool) (n : ℕ) → ((k : ℕ) → k < n → f k ≡ true → g k ≡ true) → count f n ≤ count g n
unfolding count
count_under f g zero i = omega arith
count_under f g (suc n) i = count-under-at (f n) (g n) _ _ (i n (omega arith)) (count_under f g n (λ k h. i k (omega arith)))

count-le_at : (b : Bool) (c n : ℕ) → c ≤ n → cond b (suc c) c ≤ suc n
count-le_at true c n h = omega arith
count-le_at false c n h = omega arith

pub count-le : (f : ℕ → Bool) (n : ℕ) → count f n ≤ n
unfolding count
count-le f zero = omega arith
count-le f (suc n) = count-le_at (f n) _ n (count-le f n)

-- a number below n that passes, with i that pass before it
pub record Nth (f : ℕ → Bool) (n i : ℕ) : Type 0 where
  pub at : ℕ
  pub below : at < n
  pub passes : f at ≡ true
  pub rank : count f at ≡ i

nth-more : {f : ℕ → Bool} {n i : ℕ} → Nth f n i → Nth f (suc n) i
nth-more t = record { at = t.at; below = omega arith; passes = t.passes; rank = t.rank }

nth-at : (f : ℕ → Bool) (n i : ℕ) → (i < count f n → Nth f n i) → (b : Bool) → f n ≡ b → i < cond b (suc (count f n)) (count f n) → Nth f (suc n) i
nth-at f n i ih false e h = nth-more (ih h)
nth-at f n i ih true e h =
    ⊎_elim (λ q. record { at = n; below = omega arith; passes = e; rank = sym q }) (λ l. nth-more (ih l)) (eq-or-lt_of_le (le_of_suc-le-suc h))

pub nth : (f : ℕ → Bool) (n i : ℕ) → i < count f n → Nth f n i
unfolding count
nth f zero i h = absurd (not-suc-le-zero h)
nth f (suc n) i h = nth-at f n i (nth f n i) (f n) refl h

-- ---- select

select-at : (f : ℕ → Bool) (n x : ℕ) (b : Bool) → f n ≡ b → Memᴰ x (cond b (n ∷ []) []) → (x < suc n) × (f x ≡ true)
select-at f n x true e m = let q = Memᴰ.eq_of_singleton m in (omega arith, rw q e)
select-at f n x false e m = absurd (Memᴰ.not-nil m)

-- the numbers below n at which the test passes, and no others
pub select-iff : (f : ℕ → Bool) (n x : ℕ) → Memᴰ x (select f n) ↔ ((x < n) × (f x ≡ true))
unfolding select
select-iff f zero x = ((λ m. absurd (Memᴰ.not-nil m)), (λ h. absurd (not-suc-le-zero h.0)))
select-iff f (suc n) x = (
  (λ m. ⊎_elim (λ l. let h = (select-iff f n x).0 l in (omega (arith, h.0), h.1)) (λ l. select-at f n x (f n) refl l) (Memᴰ.append_cases (select f n) m)),
  (λ h.
      ⊎_elim
      (λ q. let e : f n ≡ true = sym (ap f q) ∙ h.1 in Memᴰ.append_right (select f n) (rw e (Memᴰ.head q)))
      (λ l. Memᴰ.append_left _ ((select-iff f n x).1 (l, h.1)))
      (eq-or-lt_of_le (le_of_suc-le-suc h.0))),
)

length-select-at : (b : Bool) (n c : ℕ) → c + length (cond b (n ∷ []) []) ≡ cond b (suc c) c
length-select-at true n c = omega arith
length-select-at false n c = omega arith

pub length-select : (f : ℕ → Bool) (n : ℕ) → length (select f n) ≡ count f n
unfolding select count
length-select f zero = refl
length-select f (suc n) =
    length-append (select f n) _ ∙ ap (λ (c : ℕ). c + length (cond (f n) (n ∷ []) [])) (length-select f n) ∙ length-select-at (f n) n (count f n)

-- a number that is selected stands at its rank
pub get_or-select : (f : ℕ → Bool) (n x d : ℕ) → x < n → f x ≡ true → get_or (select f n) (count f x) d ≡ x
unfolding select
get_or-select f zero x d h e = absurd (not-suc-le-zero h)
get_or-select f (suc n) x d h e =
    ⊎_elim
    (λ q. let e' : f n ≡ true = sym (ap f q) ∙ e in rw (q, e') (get_or_at (select f n) n [] d (count f n) (length-select f n)))
    (λ l. let s : count f x < length (select f n) = rw (length-select f n) (count-strict f x n e l) in
    get_or-append (select f n) _ d (count f x) s ∙ get_or-select f n x d l e)
    (eq-or-lt_of_le (le_of_suc-le-suc h))

-- so they rise strictly
pub select-rises : (f : ℕ → Bool) (n d i j : ℕ) → i < j → j < length (select f n) → get_or (select f n) i d < get_or (select f n) j d
select-rises f n d i j h l =
    let b : j < count f n = rw (length-select f n) at l in
    let x = nth f n i (omega arith) in
    let y = nth f n j b in
    let p : get_or (select f n) i d ≡ x.at = rw x.rank at (get_or-select f n x.at d x.below x.passes) in
    let q : get_or (select f n) j d ≡ y.at = rw y.rank at (get_or-select f n y.at d y.below y.passes) in
    let s : ¬ (y.at ≤ x.at) = λ z. let t = count-mono f y.at x.at z in omega (arith, x.rank, y.rank) in
    omega arith

-- ---- up_to

pub length-up_to : (f : ℕ → ℕ) (n : ℕ) → length (up_to f n) ≡ n
unfolding up_to
length-up_to f zero = refl
length-up_to f (suc n) = ap suc (length-up_to (λ k. f (suc k)) n)

pub get_or-up_to : (f : ℕ → ℕ) (n i d : ℕ) → i < n → get_or (up_to f n) i d ≡ f i
unfolding up_to
get_or-up_to f zero i d h = absurd (not-suc-le-zero h)
get_or-up_to f (suc n) zero d h = refl
get_or-up_to f (suc n) (suc i) d h = get_or-up_to (λ k. f (suc k)) n i d (le_of_suc-le-suc h)

-- ---- tests that agree, and blocks of numbers

pub select-same : (f g : ℕ → Bool) (n : ℕ) → ((k : ℕ) → k < n → f k ≡ g k) → select f n ≡ select g n
unfolding select
select-same f g zero e = refl
select-same f g (suc n) e = rw (select-same f g n (λ k h. e k (omega arith)), e n (omega arith))

pub count_same : (f g : ℕ → Bool) (n : ℕ) → ((k : ℕ) → k < n → f k ≡ g k) → count f n ≡ count g n
count_same f g n e = sym (length-select f n) ∙ ap length (select-same f g n e) ∙ length-select g n

-- numbers that do not pass are not selected
pub select-skip : (f : ℕ → Bool) (n m : ℕ) → n ≤ m → ((k : ℕ) → n ≤ k → k < m → f k ≡ false) → select f m ≡ select f n
unfolding select
select-skip f n =
    le_ind (λ (m : ℕ). ((k : ℕ) → n ≤ k → k < m → f k ≡ false) → select f m ≡ select f n) (λ e. refl)
    (λ m l ih e. rw (e m l (omega arith), append-nil) (ih (λ k a b. e k a (omega arith))))

-- one that passes is
pub select-next : (f : ℕ → Bool) (n : ℕ) → f n ≡ true → select f (n + 1) ≡ select f n ++ (n ∷ [])
unfolding select
select-next f n e = rw (add-one n, e)

count_at : (b : Bool) (c d : ℕ) → cond b (suc (c + d)) (c + d) ≡ c + cond b (suc d) d
count_at true c d = omega arith
count_at false c d = refl

-- those below n and the next m are counted apart
pub count-block : (f : ℕ → Bool) (n m : ℕ) → count f (n + m) ≡ count f n + count (λ k. f (n + k)) m
unfolding count
count-block f n zero = rw (add-zero n) (omega arith)
count-block f n (suc m) = rw (add-suc n m, count-block f n m) (count_at (f (n + m)) (count f n) (count (λ k. f (n + k)) m))
