-- A table's rule: a test that antt computes over the whole table, and one law that gives the rule at each entry.
-- Entries are of any type, so it serves tables of tables too.
use mathlib.Core.Path.{◌≡◌}
use mathlib.Core.Bool.{Bool, true, ◌&&◌}
use mathlib.Core.List.{List, [], ◌∷◌}
use Prim.Native.Nat.{ℕ, zero, suc, ◌+◌, ◌<◌}
use native.Mathlib.Nat.{add-zero, zero-add, add-suc, suc-add, le_of_suc-le-suc, not-suc-le-zero}
use lib.ListN.{length, get_or}
use Rattle.basis.proofs.Bools.{and_left, and_right}

-- the test passes at each place and its entry, the places counted from i
abbrev pub every_entry : {A : Type 0} → (ℕ → A → Bool) → ℕ → List A → Bool
every_entry f i [] = true
every_entry f i (x ∷ xs) = f i x && every_entry f (suc i) xs

from : {A : Type 0} (f : ℕ → A → Bool) (d : A) (xs : List A) (i : ℕ)
    → every_entry f i xs ≡ true → (k : ℕ) → k < length xs → f (i + k) (get_or xs k d) ≡ true
from f d [] i e k h = absurd (not-suc-le-zero h)
from f d (x ∷ xs) i e zero h = rw add-zero (and_left (f i x) (every_entry f (suc i) xs) e)
from f d (x ∷ xs) i e (suc k) h =
    rw (add-suc, ← suc-add)
    (from f d xs (suc i) (and_right (f i x) (every_entry f (suc i) xs) e) k (le_of_suc-le-suc h))

-- the rule at place k of the table; d is what the code's element type has past the end
pub at : {A : Type 0} (f : ℕ → A → Bool) (d : A) (xs : List A)
    → every_entry f 0 xs ≡ true → (k : ℕ) → k < length xs → f k (get_or xs k d) ≡ true
at f d xs e k h = rw (zero-add k) at (from f d xs 0 e k h)
