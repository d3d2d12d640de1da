-- Positions of separators, by which the code parts a text.
use Rattle.std.specs.Prelude.{ℕ, zero, suc, ◌+◌, ◌≤◌, ◌≡◌, Bool, true, false, List, [], ◌∷◌, eqb, length, drop}

-- one more, or 0 where the separator is met
abbrev pub after : Bool → ℕ → ℕ
after true k = zero
after false k = suc k

-- the index of the first separator, or the length where there is none
unfoldable pub index_of : ℕ → List ℕ → ℕ
index_of b [] = zero
index_of b (x ∷ xs) = after (eqb x b) (index_of b xs)

-- r is where b first stands at or after a place of s, or the end of s
pub record Found (s : List ℕ) (from b r : ℕ) : Type 0 where
  pub low : from ≤ r
  pub high : r ≤ length s
  pub at : r ≡ from + index_of b (drop from s)
