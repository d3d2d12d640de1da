-- `same` compares two lists place by place; it and `agree` pass only for equal things.
use Prim.Native.Nat.{ℕ, suc, ◌+◌, ◌<◌}
use mathlib.Core.Path.{◌≡◌, refl, ap}
use mathlib.Core.Bool.{Bool, true, false, ◌&&◌, and-false, false≢true}
use mathlib.Core.List.{List, [], ◌∷◌}
use native.Mathlib.Numerals.{add-one}
use lib.ListN.{length, get_or, drop}
use lib.Seq.{drop-cons}
use Rattle.basis.specs.Lists.{same}
use Rattle.basis.specs.Numbers.{agree}
use Rattle.basis.proofs.Bools.{and_left, and_right}

pub agree-eq : (a b : Bool) → agree a b ≡ true → a ≡ b
agree-eq true true e = refl
agree-eq true false e = absurd (false≢true e)
agree-eq false true e = absurd (false≢true e)
agree-eq false false e = refl

pub eq_agree : (a b : Bool) → a ≡ b → agree a b ≡ true
eq_agree a b q = rw q (self b)
  where
    self : (c : Bool) → agree c c ≡ true
    self true = refl
    self false = refl

module _ {A : Type 0} (e : A → A → Bool) where
  pub same_length : (a b : List A) → (length a ≡ length b → ⊥) → same e a b ≡ false
  unfolding same
  same_length [] [] h = absurd (h refl)
  same_length [] (y ∷ ys) h = refl
  same_length (x ∷ xs) [] h = refl
  same_length (x ∷ xs) (y ∷ ys) h = rw (same_length xs ys (λ q. h (ap suc q)), and-false)

  pub same_self : ((x : A) → e x x ≡ true) → (a : List A) → same e a a ≡ true
  unfolding same
  same_self r [] = refl
  same_self r (x ∷ xs) = rw (r x, same_self r xs)

  pub same-eq : ((x y : A) → e x y ≡ true → x ≡ y) → (a b : List A) → same e a b ≡ true → a ≡ b
  unfolding same
  same-eq r [] [] q = refl
  same-eq r [] (y ∷ ys) q = absurd (false≢true q)
  same-eq r (x ∷ xs) [] q = absurd (false≢true q)
  same-eq r (x ∷ xs) (y ∷ ys) q = rw (r x y (and_left (e x y) (same e xs ys) q), same-eq r xs ys (and_right (e x y) (same e xs ys) q))

  -- one place more
  pub same_next : (d : A) (a b : List A) (i : ℕ) → i < length a → i < length b
      → same e (drop i a) (drop i b) ≡ (e (get_or a i d) (get_or b i d) && same e (drop (i + 1) a) (drop (i + 1) b))
  unfolding same
  same_next d a b i h g = rw (drop-cons a i d, drop-cons b i d, add-one)
