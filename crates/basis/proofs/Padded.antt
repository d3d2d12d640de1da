-- Laws of `padded`, an array that starts with a list and is blank behind it: its list again, one element more, and that
-- it is compared with another array by the list and the blank.
use Prim.Native.Nat.{ℕ, suc, ◌-◌, ◌≤◌, ◌<◌}
use mathlib.Core.Path.{◌≡◌, refl, sym}
use mathlib.Core.Bool.{Bool, ◌&&◌, and_assoc}
use mathlib.Core.List.{List, [], ◌∷◌, ◌++◌, map, map-append}
use native.Mathlib.Nat.{le_of_suc-le-suc, not-suc-le-zero, sub-zero, suc-sub-suc}
use native.Mathlib.Omega.{arith}
use lib.ListN.{length, take, drop, set, replicate, length-append, length-map}
use lib.Seq.{take-append_seam, append_snoc, set-append_seam}
use Rattle.basis.specs.Lists.{all, same, padded}

module _ {A : Type 0} (n : ℕ) (b : A) where
  pub take-padded : (xs : List A) → take (length xs) (padded n b xs) ≡ xs
  unfolding padded
  take-padded xs = take-append_seam xs (replicate (n - length xs) b)

  -- one element more is a store at the first place behind the list
  pub padded-more : (xs : List A) (x : A) → length xs < n → padded n b (xs ++ (x ∷ [])) ≡ set (padded n b xs) (length xs) x
  unfolding padded
  padded-more xs x h =
      let m = n - suc (length xs) in
      let e : n - length (xs ++ (x ∷ [])) ≡ m = omega (arith, length-append xs (x ∷ [])) in
      let f : n - length xs ≡ suc m = omega arith in
      rw (e, f, append_snoc xs x (replicate m b)) (sym (set-append_seam xs b (replicate m b) x))

-- the elements mapped
pub take-padded-map : {A B : Type 0} (f : A → B) (n : ℕ) (b : B) (xs : List A) → take (length xs) (padded n b (map f xs)) ≡ map f xs
take-padded-map f n b xs = rw (← length-map xs f) (take-padded n b (map f xs))

pub padded-more-map : {A B : Type 0} (f : A → B) (n : ℕ) (b : B) (xs : List A) (x : A) → length xs < n
    → padded n b (map f (xs ++ (x ∷ []))) ≡ set (padded n b (map f xs)) (length xs) (f x)
padded-more-map f n b xs x h =
    let l : length (map f xs) < n = omega (arith, length-map xs f) in
    rw (map-append f xs (x ∷ []), padded-more n b (map f xs) (f x) l, length-map xs f)

-- compared with another array: the list with the first places, the blank with the rest
module _ {A : Type 0} (e : A → A → Bool) (blank : A) where
  same-blank : (xs : List A) → same e (replicate (length xs) blank) xs ≡ all (e blank) xs
  unfolding same all
  same-blank [] = refl
  same-blank (x ∷ xs) = rw (same-blank xs)

  pub same-padded : (ys xs : List A) → length ys ≤ length xs
      → same e (padded (length xs) blank ys) xs ≡ (same e ys (take (length ys) xs) && all (e blank) (drop (length ys) xs))
  unfolding same padded
  same-padded [] xs h = rw sub-zero (same-blank xs)
  same-padded (y ∷ ys) [] h = absurd (not-suc-le-zero h)
  same-padded (y ∷ ys) (x ∷ xs) h = rw (suc-sub-suc, same-padded ys xs (le_of_suc-le-suc h), and_assoc)

-- the images of a list compared with it
pub same_map : {A : Type 0} (e : A → A → Bool) (f : A → A) (xs : List A) → same e (map f xs) xs ≡ all (λ x. e (f x) x) xs
unfolding same all
same_map e f [] = refl
same_map e f (x ∷ xs) = rw (same_map e f xs)
