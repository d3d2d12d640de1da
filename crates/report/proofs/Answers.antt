-- What the calls answer for a policy value that passes check 11: a result and no refusal.
use Rattle.std.specs.Prelude.{Result, Ok, Err}
use Prim.Native.Nat.{ℕ}
use mathlib.Core.Path.{◌≡◌, refl}
use native.Mathlib.Omega.{arith}
use Rattle.std.specs.Result.{IsOk}
use Rattle.policy.specs.Answers.{answer_of}
use Rattle.policy.specs.declared.refusal.Refusal.{Refusal}

module _ {A : Type 0} {x : Result A ℕ} {a : A} (e : x ≡ Ok a) where
  pub given : {b : A} → Ok b ≡ x → b ≡ a
  given h = cc

  pub not-refused : {n : ℕ} → Err n ≡ x → ⊥
  not-refused h = let z : ◌≡◌ {A = ℕ} 0 1 = cc in omega arith

pub is-given : {A : Type 0} (r : Result A Refusal) {a : A} → answer_of r ≡ Ok a → IsOk r
is-given (Ok b) e = refl
is-given (Err q) e = absurd (not-refused e refl)
