-- Laws of lists, by induction: `all` and `any` pass exactly where their test does at each element, or at some; what
-- stands at a place is an element.
use mathlib.Core.Path.{◌≡◌, refl, sym, ◌∙◌}
use mathlib.Core.Bool.{Bool, true, false≢true}
use mathlib.Core.Logic.{⊎_elim}
use mathlib.Core.List.Memᴰ
use mathlib.Core.List.{List, [], ◌∷◌, map, Memᴰ}
use Prim.Native.Nat.{ℕ, zero, suc, ◌≤◌, ◌<◌}
use native.Mathlib.Nat.{le_of_suc-le-suc, not-suc-le-zero}
use lib.ListN.{length, get_or, take, set, replicate, length-map}
use lib.Seq.{length-take-le, get_or-take}
use Rattle.basis.specs.Lists.{all, any}
use Rattle.basis.proofs.Bools.{and_left, and_right, and_both, or_cases, or_left, or_right}

module _ {A : Type 0} (f : A → Bool) where
  pub all-at : (xs : List A) → all f xs ≡ true → (x : A) → Memᴰ x xs → f x ≡ true
  unfolding all
  all-at [] e x m = absurd (Memᴰ.not-nil m)
  all-at (y ∷ xs) e x (Memᴰ.head p) = rw p (and_left (f y) (all f xs) e)
  all-at (y ∷ xs) e x (Memᴰ.tail m) = all-at xs (and_right (f y) (all f xs) e) x m

  pub all_of : (xs : List A) → ((x : A) → Memᴰ x xs → f x ≡ true) → all f xs ≡ true
  unfolding all
  all_of [] h = refl
  all_of (x ∷ xs) h = and_both (f x) (all f xs) (h x (Memᴰ.head refl)) (all_of xs (λ y m. h y (Memᴰ.tail m)))

  pub any_at : (xs : List A) → any f xs ≡ true → (x : A) × Memᴰ x xs × (f x ≡ true)
  unfolding any
  any_at [] e = absurd (false≢true e)
  any_at (x ∷ xs) e =
      ⊎_elim (λ p. (x, Memᴰ.head refl, p)) (λ p. let t = any_at xs p in (t.0, Memᴰ.tail t.1, t.2)) (or_cases (f x) (any f xs) e)

  pub any_of : (xs : List A) (x : A) → Memᴰ x xs → f x ≡ true → any f xs ≡ true
  unfolding any
  any_of [] x m e = absurd (Memᴰ.not-nil m)
  any_of (y ∷ xs) x (Memᴰ.head p) e = or_left (f y) (any f xs) (rw p at e)
  any_of (y ∷ xs) x (Memᴰ.tail m) e = or_right (f y) (any f xs) (any_of xs x m e)

  -- where each element passes, so does what stands at a place, and each still does after a store of one that passes
  pub all_get_d : (d : A) → f d ≡ true → (xs : List A) (k : ℕ) → all f xs ≡ true → f (get_or xs k d) ≡ true
  unfolding all
  all_get_d d h [] k e = h
  all_get_d d h (x ∷ xs) zero e = and_left (f x) (all f xs) e
  all_get_d d h (x ∷ xs) (suc k) e = all_get_d d h xs k (and_right (f x) (all f xs) e)

  pub all_set : (y : A) → f y ≡ true → (xs : List A) (k : ℕ) → all f xs ≡ true → all f (set xs k y) ≡ true
  unfolding all
  all_set y h [] k e = refl
  all_set y h (x ∷ xs) zero e = and_both (f y) (all f xs) h (and_right (f x) (all f xs) e)
  all_set y h (x ∷ xs) (suc k) e =
      and_both (f x) (all f (set xs k y)) (and_left (f x) (all f xs) e) (all_set y h xs k (and_right (f x) (all f xs) e))

  pub all_replicate : (y : A) → f y ≡ true → (n : ℕ) → all f (replicate n y) ≡ true
  unfolding all
  all_replicate y h zero = refl
  all_replicate y h (suc n) = and_both (f y) (all f (replicate n y)) h (all_replicate y h n)

-- what stands at a place of a list is one of its elements
pub get_or-in : {A : Type 0} (xs : List A) (k : ℕ) (d : A) → k < length xs → Memᴰ (get_or xs k d) xs
get_or-in [] k d h = absurd (not-suc-le-zero h)
get_or-in (x ∷ xs) zero d h = Memᴰ.head refl
get_or-in (x ∷ xs) (suc k) d h = Memᴰ.tail (get_or-in xs k d (le_of_suc-le-suc h))

-- each place of a list of blanks is blank
pub get_or-blank : {A : Type 0} (n k : ℕ) (d : A) → get_or (replicate n d) k d ≡ d
get_or-blank zero k d = refl
get_or-blank (suc n) zero d = refl
get_or-blank (suc n) (suc k) d = get_or-blank n k d

-- the length of an array of structs, from what the check knows of it: `search (needs, long)`
pub long : {A B : Type 0} (f : A → B) (xs : List A) (n : ℕ) → length (map f xs) ≡ n → length xs ≡ n
long f xs n e = sym (length-map xs f) ∙ e

-- a test of a list's images
pub all_map : {A B : Type 0} (f : B → Bool) (g : A → B) (xs : List A) → all f (map g xs) ≡ all (λ x. f (g x)) xs
unfolding all
all_map f g [] = refl
all_map f g (x ∷ xs) = rw (all_map f g xs)

-- what passes at each of the first n places passes at place i
pub all-taken : {A : Type 0} (f : A → Bool) (d : A) (xs : List A) (n i : ℕ) → i < n → n ≤ length xs → all f (take n xs) ≡ true → f (get_or xs i d) ≡ true
all-taken f d xs n i h l e =
    let k : i < length (take n xs) = rw (length-take-le n xs l) h in
    rw (get_or-take n xs i d h) at (all-at f (take n xs) e (get_or (take n xs) i d) (get_or-in (take n xs) i d k))
