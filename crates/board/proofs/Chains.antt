-- What the library's chains answer, by the definitions.
use Rattle.std.specs.Prelude.{Some}
use Prim.Native.Nat.{ℕ, ◌-◌, ◌<◌}
use mathlib.Core.Path.{◌≡◌, refl, sym, ◌∙◌}
use mathlib.Core.Bool.{Bool, true, false, cond, ◌||◌, or-false, or_assoc}
use mathlib.Core.List.{List, [], ◌∷◌, ◌++◌, map, reverse, Memᴰ}
use native.Mathlib.Omega.{arith}
use lib.ListN.{length, get_or}
use lib.Dec.{eqb}
use denote.Bor.{Bor}
use Rattle.std.proofs.lemmas.List.{map-append, reverse-append, reverse-reverse, length-reverse, get_or-reverse}
use Rattle.basis.proofs.Lists.{get_or-in}
use Rattle.std.specs.List.{fold, find, list_any}
use Rattle.std.specs.Option.{option_map}
use Rattle.basis.specs.Lists.{any}
use Rattle.policy.specs.Policy.{set_of_number}
use Rattle.policy.specs.declared.value.Entry.{Entry}

-- the set of the first entry with the number
pub set-found : (es : List Entry) (k : ℕ) → option_map (λ (e : Entry). e.set) (find (λ (e : Entry). eqb e.number k) es) ≡ set_of_number es k
unfolding set_of_number
set-found [] k = refl
set-found (e ∷ es) k = go (eqb e.number k) (set-found es k)
  where
    go : (t : Bool) → option_map (λ (e : Entry). e.set) (find (λ (e : Entry). eqb e.number k) es) ≡ set_of_number es k
        → option_map (λ (e : Entry). e.set) (cond t (Some e) (find (λ (e : Entry). eqb e.number k) es)) ≡ cond t (Some e.set) (set_of_number es k)
    go true h = refl
    go false h = h

-- some element passes the test
module _ {A : Type 0} (f : A → Bool) where
  pub any-list : (xs : List A) → list_any f xs ≡ any f xs
  unfolding any
  any-list [] = refl
  any-list (x ∷ xs) = rw (any-list xs)

  -- the same by a fold, which looks at every element
  or-folded : (a : Bool) (xs : List A) → fold (λ (b : Bool) (x : A). b || f x) a xs ≡ (a || any f xs)
  unfolding any
  or-folded a [] = sym (or-false a)
  or-folded a (x ∷ xs) = or-folded (a || f x) xs ∙ or_assoc a (f x) (any f xs)

  pub or-fold : (xs : List A) → fold (λ (b : Bool) (x : A). b || f x) false xs ≡ any f xs
  or-fold xs = or-folded false xs

-- one more item of a loop that goes from the last to the first: it stands before those that were read
pub back-push : {A : Type 0} (xs : List (Bor A)) (x : Bor A) → reverse (map (λ (y : Bor A). y.now) (xs ++ x ∷ [])) ≡ x.now ∷ reverse (map (λ (y : Bor A). y.now) xs)
back-push xs x = rw (map-append (λ y. y.now) xs (x ∷ [])) (reverse-append (map (λ y. y.now) xs) (x.now ∷ []))

-- all were read
pub back-all : {A : Type 0} (xs : List (Bor A)) (all : List A) → map (λ (y : Bor A). y.now) xs ≡ reverse all → reverse (map (λ (y : Bor A). y.now) xs) ≡ all
back-all xs all e = rw e (reverse-reverse all)

-- what such a loop reads is in the list
pub read-in : {A : Type 0} (all : List A) (k : ℕ) (x : A) → (k < length (reverse all)) × (x ≡ get_or (reverse all) k x) → Memᴰ x all
read-in all k x h =
    let l : k < length all = rw length-reverse at h.0 in
    rw (h.1, get_or-reverse all k x l) (get_or-in all (length all - 1 - k) x (omega arith))
