-- Lists with one element more at the end: their length, their sum and their last element.
use Rattle.std.specs.Prelude.{Option, None, Some}
use Prim.Native.Nat.{ℕ, ◌+◌}
use mathlib.Core.Path.{◌≡◌, refl, ◌∙◌}
use mathlib.Core.List.{List, [], ◌∷◌, ◌++◌}
use native.Mathlib.Omega.{arith}
use lib.ListN.{length, length-append}
use Rattle.basis.specs.Lists.{last, sum}

pub length-snoc : {A : Type 0} (xs : List A) (x : A) → length (xs ++ (x ∷ [])) ≡ length xs + 1
length-snoc xs x = length-append xs (x ∷ [])

pub sum-snoc : (xs : List ℕ) (x : ℕ) → sum (xs ++ (x ∷ [])) ≡ sum xs + x
unfolding sum
sum-snoc [] x = omega arith
sum-snoc (y ∷ xs) x = omega (arith, sum-snoc xs x)

-- the last element, after another
abbrev pub last_after : {A : Type 0} → Option A → List A → Option A
last_after b [] = b
last_after b (x ∷ xs) = last_after (Some x) xs

pub last-after : {A : Type 0} (xs : List A) → last xs ≡ last_after None xs
unfolding last
last-after [] = refl
last-after (x ∷ []) = refl
last-after (x ∷ y ∷ ys) = last-after (y ∷ ys)

after-snoc : {A : Type 0} (b : Option A) (xs : List A) (x : A) → last_after b (xs ++ (x ∷ [])) ≡ Some x
after-snoc b [] x = refl
after-snoc b (y ∷ xs) x = after-snoc (Some y) xs x

pub last_snoc : {A : Type 0} (xs : List A) (x : A) → last (xs ++ (x ∷ [])) ≡ Some x
last_snoc xs x = last-after (xs ++ (x ∷ [])) ∙ after-snoc None xs x
