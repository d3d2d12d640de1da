-- The attribute of a value, width by width, and the sum of the widths.
use Rattle.std.specs.List.{sum as list_sum}
use Rattle.std.proofs.lemmas.List.Sums.{sum_by-cons}
use Prim.Native.Nat.{ℕ, suc, ◌+◌, ◌-◌, ◌≤◌, ◌<◌}
use mathlib.Core.Path.{◌≡◌, refl, ap, ◌∙◌}
use mathlib.Core.Bool.{cond}
use mathlib.Core.List.{List, [], ◌∷◌}
use lib.Dec.{ltb}
use lib.ListN.{length, get_or, drop, drop_of_length-le}
use Rattle.basis.specs.Lists.{sum}
use Rattle.basis.proofs.Walk.{rest-next}
use Rattle.policy.specs.Policy.{attribute_of}

module _ (ws : List ℕ) (i v : ℕ) where
  pub attribute_next : i < length ws
      → attribute_of (drop i ws) v ≡ cond (ltb v (get_or ws i 0)) 0 (suc (attribute_of (drop (i + 1) ws) (v - get_or ws i 0)))
  unfolding attribute_of
  attribute_next h = rw (rest-next 0 ws i h)

  pub attribute_end : length ws ≤ i → attribute_of (drop i ws) v ≡ 0
  unfolding attribute_of
  attribute_end h = rw (drop_of_length-le ws h)

-- the sum that a chain works out
pub sum-chain : (ws : List ℕ) → list_sum ws ≡ sum ws
unfolding sum
sum-chain [] = refl
sum-chain (w ∷ ws) = sum_by-cons (λ (n : ℕ). n) w ws ∙ ap (λ (n : ℕ). w + n) (sum-chain ws)
