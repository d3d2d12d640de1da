-- The loop over places that must be blank: one law for a turn and one for the end.
use Prim.Native.Nat.{ℕ, ◌+◌, ◌-◌, ◌≤◌, ◌<◌}
use mathlib.Core.Path.{◌≡◌}
use mathlib.Core.Bool.{Bool, ◌&&◌, and-true, and_assoc}
use mathlib.Core.List.{List}
use lib.ListN.{length, get_or, take, drop, drop_of_length-le, length-drop}
use lib.Seq.{take-length}
use Rattle.basis.specs.Lists.{all}
use Rattle.basis.proofs.Walk.{rest-next}

-- `so` says whether the places before place i are blank
module _ {A : Type 0} (t : A → Bool) (xs : List A) (i : ℕ) (so : Bool) where
  pub blank-next : i < length xs → {x : A} → x ≡ get_or xs i x → {b : Bool} → b ≡ t x
      → (so && all t (drop i xs)) ≡ ((so && b) && all t (drop (i + 1) xs))
  unfolding all
  blank-next h {x} is e = rw (rest-next x xs i h, ← is, e, and_assoc)

  pub blank-end : length xs ≤ i → (so && all t (drop i xs)) ≡ so
  unfolding all
  blank-end h = rw (drop_of_length-le xs h, and-true)

-- a list of m places from a place on, as a range of an array or a slice cuts it out
pub whole : {A : Type 0} (xs : List A) (n m : ℕ) → length xs ≡ m → take (m - n) (drop n xs) ≡ drop n xs
whole xs n m k = rw (← k, ← length-drop n xs) (take-length (drop n xs))
