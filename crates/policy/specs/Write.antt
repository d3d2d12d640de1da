-- "Write: the text of a policy value, and its length (refusals 11, 20)."
use Rattle.std.specs.Prelude.{ℕ, not, List, [], ◌∷◌, ltb, length, Result}
use Rattle.basis.specs.Choice.{Check, check, given, first_broken, unless_refused}
use Rattle.basis.specs.Lists.{over}
use Rattle.policy.specs.Text.{text_of}
use Rattle.policy.specs.Value.{policy_of}
use Rattle.policy.specs.Valid.{valid}
use Rattle.policy.specs.declared.value.PolicyValue.{PolicyValue}

abbrev pub write_checks : PolicyValue → List ℕ → List Check
write_checks v buffer = check 11 (not (valid v)) ∷ check 20 (ltb (length buffer) (length (text_of (policy_of v)))) ∷ []

unfoldable pub write : PolicyValue → List ℕ → Result ℕ ℕ
write v buffer = unless_refused (write_checks v buffer) (length (text_of (policy_of v)))

-- the buffer afterwards: "bytes past the text stay", and a refusal changes nothing
unfoldable pub write_buffer : PolicyValue → List ℕ → List ℕ
write_buffer v buffer = given (first_broken (write_checks v buffer)) (over (text_of (policy_of v)) buffer) (λ n. buffer)
