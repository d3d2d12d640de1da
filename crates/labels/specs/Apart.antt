-- "Apart (11, 19): for two user sets, either 'alike' or some action and object set that tells them apart; which one is
-- free."
use Rattle.std.specs.Prelude.{ℕ, ◌<◌, ◌≡◌, true, false, not, ◌||◌, List, [], ◌∷◌, leb, Option, None, Some, Result, Ok, Err}
use Rattle.basis.specs.Choice.{Check, check, first_broken}
use Rattle.basis.specs.Numbers.{agree}
use Rattle.policy.specs.Limits.{actions}
use Rattle.policy.specs.Policy.{Policy, sets}
use Rattle.policy.specs.Value.{policy_of}
use Rattle.policy.specs.Valid.{valid}
use Rattle.policy.specs.Answers.{number_of}
use Rattle.policy.specs.declared.value.PolicyValue.{PolicyValue}
use Rattle.policy.specs.declared.refusal.Refusal.{Refusal}
use Rattle.formula.specs.Truth.{at, grants}
use Rattle.labels.specs.Compile.{like_users}
use Rattle.labels.specs.declared.Witness.{Witness}

-- the action is granted to one of the two user sets and denied to the other, on the object set
pub record Separates (p : Policy) (u v a o : ℕ) : Type 0 where
  pub action : a < actions p.form
  pub object : o < sets p.object
  pub differ : agree (grants p a (at u o)) (grants p a (at v o)) ≡ false

-- "Apart (11, 19)"
abbrev pub apart_checks : PolicyValue → ℕ → ℕ → List Check
apart_checks value u v =
    check 11 (not (valid value)) ∷ check 19 (leb (sets (policy_of value).user) u || leb (sets (policy_of value).user) v) ∷ []

abbrev pub apart_refusal : PolicyValue → ℕ → ℕ → Option ℕ
apart_refusal value u v = first_broken (apart_checks value u v)

-- what each answer says: a refusal is the lowest that applies, no witness is 'alike' and is true, and a witness truly
-- separates
abbrev pub Tells : PolicyValue → ℕ → ℕ → Result (Option Witness) Refusal → Type 0
Tells value u v (Err r) = apart_refusal value u v ≡ Some (number_of r)
Tells value u v (Ok None) = (apart_refusal value u v ≡ None) × (like_users (policy_of value) u v ≡ true)
Tells value u v (Ok (Some w)) = (apart_refusal value u v ≡ None) × Separates (policy_of value) u v w.action w.object
