-- Lists of which each element passes a test and stands above the one before it: one element more, each element, and how
-- many there are at most.
use Rattle.std.specs.Prelude.{Option, None, Some}
use Prim.Native.Nat.{ℕ, ◌+◌, ◌≤◌, ◌<◌}
use mathlib.Core.Path.{◌≡◌}
use mathlib.Core.Bool.{Bool, true, ◌&&◌}
use mathlib.Core.List.Memᴰ
use mathlib.Core.List.{List, [], ◌∷◌, ◌++◌, Memᴰ}
use native.Mathlib.Omega.{arith}
use lib.ListN.{length}
use Rattle.basis.specs.Choice.{given}
use Rattle.basis.specs.Lists.{last}
use Rattle.basis.proofs.Snoc.{last_after, last-after}
use Rattle.basis.proofs.Bools.{and_left, and_right}
use Rattle.policy.specs.Inner.Sound.{rising}

module _ {A : Type 0} (fits : A → Bool) (above : A → A → Bool) where
  -- the parts of the test at a list's first element
  pub record Head (b : Option A) (x : A) (xs : List A) : Type 0 where
    pub fits-it : fits x ≡ true
    pub above-it : given b true (λ y. above y x) ≡ true
    pub rest : rising fits above (Some x) xs ≡ true

  pub head : (b : Option A) (x : A) (xs : List A) → rising fits above b (x ∷ xs) ≡ true → Head b x xs
  unfolding rising
  head b x xs e =
      let f = fits x in
      let a = given b true (λ y. above y x) in
      let r = rising fits above (Some x) xs in
      let t = and_right f (a && r) e in
      record { fits-it = and_left f (a && r) e; above-it = and_left a r t; rest = and_right a r t }

  -- one element more
  more-after : (b : Option A) (xs : List A) (x : A) → rising fits above b xs ≡ true → fits x ≡ true
      → given (last_after b xs) true (λ y. above y x) ≡ true → rising fits above b (xs ++ (x ∷ [])) ≡ true
  unfolding rising
  more-after b [] x e f a = rw (f, a)
  more-after b (y ∷ xs) x e f a =
      let h = head b y xs e in
      rw (h.fits-it, h.above-it) (more-after (Some y) xs x h.rest f a)

  pub rising-more : (xs : List A) (x : A) → rising fits above None xs ≡ true → fits x ≡ true
      → given (last xs) true (λ y. above y x) ≡ true → rising fits above None (xs ++ (x ∷ [])) ≡ true
  rising-more xs x e f a = more-after None xs x e f (rw (last-after xs) at a)

  -- each element passes
  pub rising-at : (b : Option A) (xs : List A) → rising fits above b xs ≡ true → (x : A) → Memᴰ x xs → fits x ≡ true
  rising-at b [] e x m = absurd (Memᴰ.not-nil m)
  rising-at b (y ∷ xs) e x (Memᴰ.head p) = rw p (head b y xs e).fits-it
  rising-at b (y ∷ xs) e x (Memᴰ.tail m) = rising-at (Some y) xs (head b y xs e).rest x m

  -- no more elements than ranks, where each stands above another only with a higher rank
  module _ (rank : A → ℕ) (n : ℕ) (low : (x : A) → fits x ≡ true → rank x < n)
      (step : (y x : A) → fits y ≡ true → above y x ≡ true → rank y < rank x) where
    few-above : (y : A) (xs : List A) → fits y ≡ true → rising fits above (Some y) xs ≡ true → length xs + rank y < n
    few-above y [] f e = omega (arith, low y f)
    few-above y (x ∷ xs) f e =
        let h = head (Some y) x xs e in
        omega (arith, few-above x xs h.fits-it h.rest, step y x f h.above-it)

    pub rising-few : (xs : List A) → rising fits above None xs ≡ true → length xs ≤ n
    rising-few [] e = omega arith
    rising-few (x ∷ xs) e = let h = head None x xs e in omega (arith, few-above x xs h.fits-it h.rest)
