-- Sets of values. "A set is the sum of 2^k over the values k in it."
use Rattle.std.specs.Prelude.{ℕ, zero, suc, ◌+◌, ◌-◌, ◌/◌, ◌%◌, ◌^◌, Bool, cond, eqb}
use Rattle.std.specs.Int.Bits.{bit_and, bit_or, bit_xor}

-- value v is in the set: 2^v is one of the powers that it sums
abbrev pub has : ℕ → ℕ → Bool
has s v = eqb (s / 2 ^ v % 2) 1

-- the set of the values below n that pass a test
unfoldable pub set_of : (ℕ → Bool) → ℕ → ℕ
set_of f zero = 0
set_of f (suc n) = set_of f n + cond (f n) (2 ^ n) 0

-- the values of both, and those of a that are not in b; `has-union` and `has-minus` say so value by value
abbrev pub union : ℕ → ℕ → ℕ
union a b = bit_or a b

abbrev pub minus : ℕ → ℕ → ℕ
minus a b = bit_xor a (bit_and a b)

-- each value of a is in b; `within-iff` says so value by value
abbrev pub within : ℕ → ℕ → Bool
within a b = eqb (bit_and a b) a

-- "masks of the first k values .. worked out as 2^k − 1": the set of all values below k, as `has-mask` says
abbrev pub mask : ℕ → ℕ
mask k = 2 ^ k - 1
