-- Labels over any test `like` of two numbers, and over any number of sets. The sets of a side are numbers, so the sides
-- share these.
use Rattle.std.specs.Prelude.{ℕ, Bool, eqb}
use Rattle.basis.specs.Numbers.{first, count}

-- the lowest set that is like u
unfoldable pub lowest_like : (ℕ → ℕ → Bool) → ℕ → ℕ
lowest_like like u = first (λ v. like v u) u

-- u is the lowest of its like
unfoldable pub leads : (ℕ → ℕ → Bool) → ℕ → Bool
leads like u = eqb (lowest_like like u) u

-- how many labels the sets below m have
unfoldable pub label_count : (ℕ → ℕ → Bool) → ℕ → ℕ
label_count like m = count (leads like) m

-- "Labels count from 0 in order of each label's lowest set."
unfoldable pub label : (ℕ → ℕ → Bool) → ℕ → ℕ
label like u = label_count like (lowest_like like u)

-- the lowest of the sets below m that has the label l
unfoldable pub leader : (ℕ → ℕ → Bool) → ℕ → ℕ → ℕ
leader like m l = first (λ u. eqb (label like u) l) m

-- how many different numbers a function gives to the sets below m
unfoldable pub different : (ℕ → ℕ) → ℕ → ℕ
different f m = label_count (λ u v. eqb (f u) (f v)) m
