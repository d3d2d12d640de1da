-- Tests and counts over the numbers below a bound.
use Rattle.std.specs.Prelude.{ℕ, zero, suc, Bool, true, false, cond, ◌&&◌, List, [], ◌∷◌, ◌++◌}

-- the test passes at each number below n
unfoldable pub every : (ℕ → Bool) → ℕ → Bool
every f zero = true
every f (suc n) = every f n && f n

-- the least number below n at which the test passes, or n where there is none
unfoldable pub first : (ℕ → Bool) → ℕ → ℕ
first f zero = zero
first f (suc n) = cond (f zero) zero (suc (first (λ k. f (suc k)) n))

-- how many numbers below n pass
unfoldable pub count : (ℕ → Bool) → ℕ → ℕ
count f zero = zero
count f (suc n) = let k = count f n in cond (f n) (suc k) k

-- those that pass, rising
unfoldable pub select : (ℕ → Bool) → ℕ → List ℕ
select f zero = []
select f (suc n) = select f n ++ cond (f n) (n ∷ []) []

-- f 0, f 1, .. , f (n - 1)
unfoldable pub up_to : (ℕ → ℕ) → ℕ → List ℕ
up_to f zero = []
up_to f (suc n) = f zero ∷ up_to (λ k. f (suc k)) n

-- each of two tests passes only where the other does
abbrev pub agree : Bool → Bool → Bool
agree true b = b
agree false true = false
agree false false = true

-- the second passes where the first does
abbrev pub implies : Bool → Bool → Bool
implies true b = b
implies false b = true
