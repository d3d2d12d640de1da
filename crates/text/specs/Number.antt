-- "A number is one to five digits with no needless leading zero."
use Rattle.std.specs.Prelude.{ℕ, zero, suc, ◌+◌, ◌*◌, ◌-◌, ◌/◌, ◌%◌, Bool, cond, not, ◌&&◌, ◌||◌, List, [], ◌∷◌, eqb, leb, ltb, length, get_or, Option, Some, None}
use Rattle.basis.specs.Bytes.{byte}
use Rattle.basis.specs.Lists.{all}

abbrev pub most_digits : ℕ
most_digits = 5

-- "a digit is 0 to 9"
abbrev pub is_digit : ℕ → Bool
is_digit b = leb (byte "0") b && leb b (byte "9")

abbrev pub digit_of : ℕ → ℕ
digit_of b = b - byte "0"

-- the number that v and then these digits write
unfoldable pub value_from : ℕ → List ℕ → ℕ
value_from v [] = v
value_from v (d ∷ ds) = value_from (v * 10 + digit_of d) ds

abbrev pub value_of : List ℕ → ℕ
value_of f = value_from 0 f

-- a field in the form of a number
unfoldable pub is_number : List ℕ → Bool
is_number f =
    leb 1 (length f) && (leb (length f) most_digits && (all is_digit f && (eqb (length f) 1 || not (eqb (get_or f 0 0) (byte "0")))))

-- what a field says
unfoldable pub numeral : List ℕ → Option ℕ
unfolding is_number
numeral f = cond (is_number f) (Some (value_of f)) None

-- the digits of n, at most k of them, in front of others
unfoldable pub digits_before : ℕ → ℕ → List ℕ → List ℕ
digits_before zero n ds = ds
digits_before (suc k) n ds = cond (ltb n 10) ((byte "0" + n) ∷ ds) (digits_before k (n / 10) ((byte "0" + n % 10) ∷ ds))

-- a number as it is written; it has no more than n + 1 digits
unfoldable pub decimal : ℕ → List ℕ
unfolding digits_before
decimal n = digits_before (suc n) n []
