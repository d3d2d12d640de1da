-- Two rows of entries: "unlike as soon as one object set's byte differs", or entry of another width.
use Rattle.std.specs.Prelude.{ℕ, Bool, not, eqb}
use Rattle.basis.specs.Numbers.{first}

-- the first of n columns at which two rows differ, or n where none does
unfoldable pub first_unlike : (ℕ → ℕ) → (ℕ → ℕ) → ℕ → ℕ
first_unlike f g n = first (λ o. not (eqb (f o) (g o))) n

-- the rows u and v are alike: there is no first column at which they differ
unfoldable pub rows_alike : (ℕ → ℕ → ℕ) → ℕ → ℕ → ℕ → Bool
rows_alike f n u v = eqb (first_unlike (f u) (f v) n) n
