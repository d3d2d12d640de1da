-- A list gone through from its last element on: what is left, and what has been gone through.
use mathlib.Core.Path.{◌≡◌, refl, sym, ap, ◌∙◌, subst}
use mathlib.Core.List.{List, [], ◌∷◌, ◌++◌, Memᴰ}
use Rattle.std.proofs.lemmas.List.{append_assoc, nil_from_length}
use lib.ListN.{length}

-- the last of the elements that are left goes to those gone through
pub moved : {A : Type 0} {all rest : List A} (left done : List A) (x : A) → all ≡ rest ++ done → rest ≡ left ++ (x ∷ []) → all ≡ left ++ (x ∷ done)
moved {A} left done x e q = e ∙ ap (λ (r : List A). r ++ done) q ∙ append_assoc left (x ∷ []) done

in_middle : {A : Type 0} (xs ys : List A) (x : A) → Memᴰ x (xs ++ (x ∷ ys))
in_middle [] ys x = Memᴰ.head refl
in_middle (y ∷ xs) ys x = Memᴰ.tail (in_middle xs ys x)

pub moved-in : {A : Type 0} {all : List A} (left done : List A) (x : A) → all ≡ left ++ (x ∷ done) → Memᴰ x all
moved-in left done x e = subst (Memᴰ x) (sym e) (in_middle left done x)

-- none is left
pub all_done : {A : Type 0} {all : List A} (rest done : List A) → all ≡ rest ++ done → length rest ≡ 0 → all ≡ done
all_done {A} rest done e h = e ∙ ap (λ (r : List A). r ++ done) (nil_from_length rest h)
