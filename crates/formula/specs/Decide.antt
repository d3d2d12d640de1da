-- "Decide: by the formula, on two given sets (11, 12, 19)", and by the pairs.
use Rattle.std.specs.Prelude.{ℕ, Bool, not, ◌||◌, List, [], ◌∷◌, leb, Result, Ok, Err}
use Rattle.basis.specs.Choice.{given, Check, check, first_broken}
use Rattle.policy.specs.Limits.{actions}
use Rattle.policy.specs.Policy.{Policy, sets}
use Rattle.policy.specs.Value.{policy_of}
use Rattle.policy.specs.Valid.{valid}
use Rattle.policy.specs.Answers.{number_of, Reply, granted, denied, refused, decided}
use Rattle.policy.specs.declared.value.PolicyValue.{PolicyValue}
use Rattle.policy.specs.declared.refusal.Refusal.{Refusal}
use Rattle.formula.specs.Truth.{Sets, grants}
use Rattle.formula.specs.declared.Decision.{Decision}
use Rattle.formula.specs.declared.Decision.TheVariants.{Granted, Denied}

-- what the code's answer stands for
abbrev pub decided_as : Decision → Reply
decided_as Granted = granted
decided_as Denied = denied

abbrev pub reply_of : Result Decision Refusal → Reply
reply_of (Ok d) = decided_as d
reply_of (Err r) = refused (number_of r)

-- 12: "The action is above 7", and of a `policy,2` text "above 15"
abbrev pub no_action : Policy → ℕ → Bool
no_action p a = leb (actions p.form) a

-- 19: "A set holds a value its side lacks"
abbrev pub lacking : Policy → Sets → Bool
lacking p s = leb (sets p.user) s.user || leb (sets p.object) s.object

-- "(11, 12, 19)"
abbrev pub decide_checks : PolicyValue → ℕ → Sets → List Check
decide_checks v a s =
    check 11 (not (valid v)) ∷ check 12 (no_action (policy_of v) a) ∷ check 19 (lacking (policy_of v) s) ∷ []

unfoldable pub decide : PolicyValue → ℕ → Sets → Reply
decide v a s = given (first_broken (decide_checks v a s)) (decided (grants (policy_of v) a s)) refused
