-- Places of a list: what is stored place by place holds of each place passed, and what stands at one of the first n
-- places is one of them; elements of a mapped list.
use Prim.Native.Nat.{ℕ, ◌+◌, ◌≤◌, ◌<◌}
use mathlib.Core.Path.{refl, sym, subst}
use mathlib.Core.List.Memᴰ
use mathlib.Core.List.{List, [], ◌∷◌, map, Memᴰ}
use native.Mathlib.Decide.{ℕ_discrete}
use native.Mathlib.Omega.{arith}
use lib.ListN.{length, get_or, set, take}
use lib.Seq.{get_or-set_same, get_or-set_other, get_or-take, length-take-le}
use Rattle.basis.proofs.Lists.{get_or-in}

-- what holds of each element below a place, and of what is stored there, holds of each below the next
pub stored_next : {A : Type 0} (P : ℕ → A → Type 0) (d : A) (xs : List A) (i : ℕ) (x : A) → i < length xs
    → ((j : ℕ) → j < i → P j (get_or xs j d)) → P i x → (j : ℕ) → j < i + 1 → P j (get_or (set xs i x) j d)
stored_next P d xs i x l old new j h = elim (ℕ_discrete j i) [
  | yes e ↦ subst (λ (n : ℕ). P n (get_or (set xs i x) n d)) (sym e) (subst (P i) (sym (get_or-set_same xs i x d l)) new)
  | no e ↦ subst (P j) (sym (get_or-set_other xs i j x d e)) (old j (omega arith))
]

pub taken_in : {A : Type 0} (d : A) (xs : List A) (n i : ℕ) → i < n → n ≤ length xs → Memᴰ (get_or xs i d) (take n xs)
taken_in d xs n i h l =
    let k : i < length (take n xs) = rw (length-take-le n xs l) h in
    rw (get_or-take n xs i d h) at (get_or-in (take n xs) i d k)

-- what holds of f at each element holds of each element of the mapped list
pub mapped_each : {A B : Type 0} (f : A → B) (P : B → Type 0) (xs : List A) → ((x : A) → Memᴰ x xs → P (f x))
    → (y : B) → Memᴰ y (map f xs) → P y
mapped_each f P [] h y m = absurd (Memᴰ.not-nil m)
mapped_each f P (x ∷ xs) h y (Memᴰ.head e) = subst P (sym e) (h x (Memᴰ.head refl))
mapped_each f P (x ∷ xs) h y (Memᴰ.tail m) = mapped_each f P xs (λ z n. h z (Memᴰ.tail n)) y m
