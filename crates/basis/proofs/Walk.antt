-- A list, or its first n places, walked place by place: what is left at a place is the element there and what is left
-- behind it.
use Prim.Native.Nat.{ℕ, ◌+◌, ◌≤◌, ◌<◌}
use mathlib.Core.Path.{◌≡◌}
use mathlib.Core.Bool.{Bool, true, false}
use mathlib.Core.List.{List, [], ◌∷◌}
use native.Mathlib.Numerals.{add-one}
use native.Mathlib.Omega.{arith}
use lib.ListN.{length, get_or, take, drop, drop_of_length-le, length-take}
use lib.Seq.{drop-cons, slice-cons}
use Rattle.basis.specs.Lists.{any}

module _ {A : Type 0} (d : A) (xs : List A) (i : ℕ) where
  pub rest-next : i < length xs → drop i xs ≡ get_or xs i d ∷ drop (i + 1) xs
  rest-next h = rw (add-one i) (drop-cons xs i d h)

  pub part-next : (n : ℕ) → i < n → n ≤ length xs → drop i (take n xs) ≡ get_or xs i d ∷ drop (i + 1) (take n xs)
  part-next n h k = rw (add-one i) (slice-cons i n xs d h k)

pub part_end : {A : Type 0} (xs : List A) (n i : ℕ) → n ≤ i → drop i (take n xs) ≡ []
part_end xs n i h =
    let g : length (take n xs) ≤ i = rw length-take (omega arith) in
    drop_of_length-le (take n xs) g

-- some place from i on passes a test: place i does, or one behind it
module _ {A : Type 0} (f : A → Bool) (d : A) (xs : List A) (n i : ℕ) where
  pub any-hit : i < n → n ≤ length xs → f (get_or xs i d) ≡ true → any f (drop i (take n xs)) ≡ true
  unfolding any
  any-hit h k e = rw (part-next d xs i n h k, e)

  pub any-miss : i < n → n ≤ length xs → f (get_or xs i d) ≡ false → any f (drop i (take n xs)) ≡ any f (drop (i + 1) (take n xs))
  unfolding any
  any-miss h k e = rw (part-next d xs i n h k, e)

  pub any-end : n ≤ i → any f (drop i (take n xs)) ≡ false
  unfolding any
  any-end h = rw (part_end xs n i h)
