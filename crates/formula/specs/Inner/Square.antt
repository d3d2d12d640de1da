-- Squares of eight by eight bits in one number, a byte for each row.
use Rattle.std.specs.Prelude.{ℕ, ◌+◌, ◌-◌, ◌*◌, ◌/◌, ◌%◌, ◌^◌, cond}
use Rattle.sets.specs.Set.{has}
use Rattle.formula.specs.Inner.Group.{group_size}

-- where bit p comes from when each bit of a mask changes places with the bit so many above it
unfoldable pub swap_from : ℕ → ℕ → ℕ → ℕ
swap_from by mask p = cond (has mask p) (by + p) (cond (has (mask * 2 ^ by) p) (p - by) p)

-- row j of a square
abbrev pub row_of : ℕ → ℕ → ℕ
row_of square j = square / 2 ^ (group_size * j) % 2 ^ group_size
