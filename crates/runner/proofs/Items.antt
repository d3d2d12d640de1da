-- The items of a list of numbers: how many there are, and what stands at a place.
use Rattle.std.specs.Prelude.{None}
use Prim.Native.Nat.{ℕ, zero, suc, ◌+◌, ◌*◌, ◌/◌, ◌%◌, ◌≤◌, ◌<◌}
use mathlib.Core.Path.{◌≡◌, refl}
use mathlib.Core.List.{List, [], ◌∷◌}
use native.Mathlib.Omega.{arith}
use lib.ListN.{length, get_or}
use Rattle.runner.specs.Calls.{call_in, items_in}

-- there are as many items as fours that hold all numbers
pub items-span : (ns : List ℕ) → (length ns ≤ length (items_in ns) * 4) × (length (items_in ns) * 4 < length ns + 4)
unfolding items_in
items-span [] = (omega arith, omega arith)
items-span (k ∷ []) = (omega arith, omega arith)
items-span (k ∷ a ∷ []) = (omega arith, omega arith)
items-span (k ∷ a ∷ b ∷ []) = (omega arith, omega arith)
items-span (k ∷ a ∷ b ∷ c ∷ rest) = let h = items-span rest in (omega arith, omega arith)

module _ (n : ℕ) (ns : List ℕ) where
  pub count-whole : n % 4 ≡ 0 → n ≡ length ns → n / 4 ≡ length (items_in ns)
  count-whole h e = let s = items-span ns in omega arith

  pub count-rest : (n % 4 ≡ 0 → ⊥) → n ≡ length ns → n / 4 + 1 ≡ length (items_in ns)
  count-rest h e = let s = items-span ns in omega (arith, h)

-- an item starts within the numbers
pub item_within : (ns : List ℕ) (i : ℕ) → i < length (items_in ns) → i * 4 < length ns
item_within ns i h = let s = items-span ns in omega arith

-- a number past the first four
later : (k a b c : ℕ) (rest : List ℕ) (n m : ℕ) → n ≡ suc (suc (suc (suc m))) → get_or (k ∷ a ∷ b ∷ c ∷ rest) n 0 ≡ get_or rest m 0
later k a b c rest n m e = rw e

-- the item of four numbers
pub item_whole : (ns : List ℕ) (i : ℕ) → i * 4 + 4 ≤ length ns
    → get_or (items_in ns) i None ≡ call_in (get_or ns (i * 4) 0) (get_or ns (i * 4 + 1) 0) (get_or ns (i * 4 + 2) 0) (get_or ns (i * 4 + 3) 0)
unfolding items_in
item_whole [] i h = absurd (omega arith)
item_whole (k ∷ []) i h = absurd (omega arith)
item_whole (k ∷ a ∷ []) i h = absurd (omega arith)
item_whole (k ∷ a ∷ b ∷ []) i h = absurd (omega arith)
item_whole (k ∷ a ∷ b ∷ c ∷ rest) zero h = refl
item_whole (k ∷ a ∷ b ∷ c ∷ rest) (suc i) h =
    rw (
      later k a b c rest (suc i * 4) (i * 4) (omega arith),
      later k a b c rest (suc i * 4 + 1) (i * 4 + 1) (omega arith),
      later k a b c rest (suc i * 4 + 2) (i * 4 + 2) (omega arith),
      later k a b c rest (suc i * 4 + 3) (i * 4 + 3) (omega arith),
    )
    (item_whole rest i (omega arith))

-- and of fewer
pub item_short : (ns : List ℕ) (i : ℕ) → length ns < i * 4 + 4 → get_or (items_in ns) i None ≡ None
unfolding items_in
item_short [] i h = refl
item_short (k ∷ []) zero h = refl
item_short (k ∷ []) (suc i) h = refl
item_short (k ∷ a ∷ []) zero h = refl
item_short (k ∷ a ∷ []) (suc i) h = refl
item_short (k ∷ a ∷ b ∷ []) zero h = refl
item_short (k ∷ a ∷ b ∷ []) (suc i) h = refl
item_short (k ∷ a ∷ b ∷ c ∷ rest) zero h = absurd (omega arith)
item_short (k ∷ a ∷ b ∷ c ∷ rest) (suc i) h = item_short rest i (omega arith)
