-- Laws of kinds: what one word more says of the kind, and a kind by its place.
use Rattle.std.specs.Prelude.{nat_eq}
use mathlib.Core.Path.{◌≡◌, refl}
use denote.Enum.Bare.{sameb}
use mathlib.Core.Bool.{Bool, true}
use mathlib.Core.List.{List, [], ◌∷◌}
use Prim.Native.Nat.{ℕ, ◌<◌}
use lib.Dec.{eqb, lit<}
use lib.ListN.{length, get_or}
use lib.Pointwise.{pointwise}
use Rattle.basis.specs.Lists.{same}
use Rattle.basis.proofs.Table.{every_entry, at}
use Rattle.basis.specs.Numbers.{agree}
use Rattle.basis.proofs.Same.{agree-eq}
use Rattle.text.specs.Kind.{kinds, place_of, is_kind}
use Rattle.text.specs.contracts.kind.Kind.{the_type}
use Rattle.text.specs.declared.kind.Kind.{Kind}
use Rattle.text.specs.declared.kind.Kind.TheVariants.{Policy, Uattr, Oattr, Usen, Osen, User, Object, Conflict, Rule, Pair, End}

-- what the library's `==` says of two lists of numbers
pub same_pointwise : (a b : List ℕ) → same eqb a b ≡ pointwise nat_eq a b
unfolding same
same_pointwise [] [] = refl
same_pointwise [] (y ∷ ys) = refl
same_pointwise (x ∷ xs) [] = refl
same_pointwise (x ∷ xs) (y ∷ ys) = rw (same_pointwise xs ys)

-- ---- a kind by its place

pub place-lt : (k : Kind) → place_of k < length kinds
place-lt Policy = lit< tt
place-lt Uattr = lit< tt
place-lt Oattr = lit< tt
place-lt Usen = lit< tt
place-lt Osen = lit< tt
place-lt User = lit< tt
place-lt Object = lit< tt
place-lt Conflict = lit< tt
place-lt Rule = lit< tt
place-lt Pair = lit< tt
place-lt End = lit< tt

abbrev pub kind_at : ℕ → Kind
kind_at i = get_or kinds i End

pub kind-at : (k : Kind) → kind_at (place_of k) ≡ k
kind-at Policy = refl
kind-at Uattr = refl
kind-at Oattr = refl
kind-at Usen = refl
kind-at Osen = refl
kind-at User = refl
kind-at Object = refl
kind-at Conflict = refl
kind-at Rule = refl
kind-at Pair = refl
kind-at End = refl

-- a test of kinds that passes at each of the eleven
pub each-kind : (f : Kind → Bool) → every_entry (λ _ k. f k) 0 kinds ≡ true → (k : Kind) → f k ≡ true
each-kind f e k = rw (kind-at k) at (at (λ _ j. f j) End kinds e (place_of k) (place-lt k))

-- tests of two kinds that agree at each two
every-two : (f g : Kind → Kind → Bool) → every_entry (λ _ a. every_entry (λ _ b. agree (f a b) (g a b)) 0 kinds) 0 kinds ≡ true
    → (j k : Kind) → f j k ≡ g j k
every-two f g e j k =
    agree-eq (f j k) (g j k)
    (each-kind (λ b. agree (f j b) (g j b)) (each-kind (λ a. every_entry (λ _ b. agree (f a b) (g a b)) 0 kinds) e j) k)

-- what the derived `==` says
pub same_kind : (j k : Kind) → sameb the_type j k ≡ is_kind j k
same_kind = every-two (sameb the_type) is_kind refl
