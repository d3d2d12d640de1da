-- The loop over a list whose elements must each pass a test and rise above the one before: one law for a turn and one for
-- the end. Then the same test of a list's images, and with another test of each element.
use Rattle.std.specs.Prelude.{Option, None, Some, option_map}
use Prim.Native.Nat.{ℕ, ◌+◌, ◌≤◌, ◌<◌}
use mathlib.Core.Path.{◌≡◌, refl, ◌∙◌}
use mathlib.Core.Bool.{Bool, true, false, ◌&&◌, and-false}
use mathlib.Core.List.{List, [], ◌∷◌, map}
use lib.ListN.{length, get_or, drop, drop_of_length-le}
use Rattle.basis.specs.Choice.{given}
use Rattle.basis.specs.Lists.{all}
use Rattle.basis.proofs.Walk.{rest-next}
use Rattle.policy.specs.Inner.Sound.{rising}

module _ {A : Type 0} (f : A → Bool) (above : A → A → Bool) (before : Option A) (xs : List A) (i : ℕ) where
  pub rising-next : i < length xs → {x : A} → x ≡ get_or xs i x → {b r : Bool} → b ≡ f x → r ≡ given before true (λ y. above y x)
      → rising f above before (drop i xs) ≡ (b && (r && rising f above (Some x) (drop (i + 1) xs)))
  unfolding rising
  rising-next h {x} is e u = rw (rest-next x xs i h, ← is, e, u)

  pub rising-end : length xs ≤ i → rising f above before (drop i xs) ≡ true
  unfolding rising
  rising-end h = rw (drop_of_length-le xs h)

pub rising-map : {A B : Type 0} (f : B → Bool) (above : B → B → Bool) (g : A → B) (b : Option A) (xs : List A)
    → rising f above (option_map g b) (map g xs) ≡ rising (λ x. f (g x)) (λ y x. above (g y) (g x)) b xs
unfolding rising
rising-map f above g b [] = refl
rising-map f above g None (x ∷ xs) = rw (rising-map f above g (Some x) xs)
rising-map f above g (Some y) (x ∷ xs) = rw (rising-map f above g (Some x) xs)

two-tests : (a b c d r : Bool) → ((a && b) && (c && (d && r))) ≡ ((a && c) && (d && (b && r)))
two-tests false b c d r = refl
two-tests true b false d r = and-false b
two-tests true b true false r = and-false b
two-tests true b true true r = refl

pub rising-all : {A : Type 0} (t f : A → Bool) (above : A → A → Bool) (b : Option A) (xs : List A)
    → (all t xs && rising f above b xs) ≡ rising (λ x. t x && f x) above b xs
unfolding all rising
rising-all t f above b [] = refl
rising-all t f above b (x ∷ xs) =
    two-tests (t x) (all t xs) (f x) (given b true (λ y. above y x)) (rising f above (Some x) xs) ∙ rw (rising-all t f above (Some x) xs)
