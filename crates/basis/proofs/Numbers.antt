-- `every` passes exactly where its test does at each number below the bound, by induction on the bound.
use mathlib.Core.Path.{◌≡◌, refl}
use mathlib.Core.Bool.{Bool, true}
use Prim.Native.Nat.{ℕ, zero, suc, ◌<◌}
use native.Mathlib.Decide.{ℕ_discrete}
use native.Mathlib.Omega.{arith}
use Rattle.basis.specs.Numbers.{every}
use Rattle.basis.proofs.Bools.{and_left, and_right, and_both}

pub every-at : (f : ℕ → Bool) (n : ℕ) → every f n ≡ true → (k : ℕ) → k < n → f k ≡ true
unfolding every
every-at f zero e k h = absurd (omega arith)
every-at f (suc n) e k h =
    elim (ℕ_discrete k n) [ yes p ↦ rw p (and_right (every f n) (f n) e) | no p ↦ every-at f n (and_left (every f n) (f n) e) k (omega arith) ]

pub every_of : (f : ℕ → Bool) (n : ℕ) → ((k : ℕ) → k < n → f k ≡ true) → every f n ≡ true
unfolding every
every_of f zero h = refl
every_of f (suc n) h = and_both (every f n) (f n) (every_of f n (λ k l. h k (omega arith))) (h n (omega arith))
