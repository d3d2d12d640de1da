-- Deciding, answer by answer: which of the tests 11, 12 and 19 come out how.
use Prim.Native.Nat.{ℕ, ◌≤◌, ◌<◌, ◌^◌}
use mathlib.Core.Path.{◌≡◌}
use mathlib.Core.Bool.{Bool, true, false}
use native.Mathlib.Nat.{lt_of_lt_of_le}
use lib.Dec.{leb}
use lib.Pow.{pow_mono}
use borrow.Author.Tests.{le-leb, lt-leb, leb-false}
use Rattle.basis.specs.Choice.{first_broken}
use Rattle.basis.proofs.Bools.{or_neither}
use Rattle.policy.specs.Policy.{Policy, sets}
use Rattle.policy.specs.Value.{policy_of}
use Rattle.policy.specs.Valid.{valid}
use Rattle.policy.specs.Answers.{refused, decided}
use Rattle.policy.specs.Limits.{actions, most_values}
use Rattle.policy.specs.declared.value.PolicyValue.{PolicyValue}
use Rattle.formula.specs.Truth.{Sets, grants}
use Rattle.formula.specs.Decide.{lacking, decide}
use Rattle.formula.specs.Inner.Lane.{AttributesOf}
use Rattle.formula.specs.declared.attributes.Attributes.{Attributes}

-- the sets of a side are sets of at most the most values
pub sets-fit : (p : Policy) (x : Attributes) → AttributesOf p x → (s : Sets) → lacking p s ≡ false
    → (s.user < 2 ^ most_values) × (s.object < 2 ^ most_values)
sets-fit p x h s e =
    let l = or_neither (leb (sets p.user) s.user) (leb (sets p.object) s.object) e in (
      lt_of_lt_of_le (leb-false (sets p.user) s.user l.0) (pow_mono h.user.most),
      lt_of_lt_of_le (leb-false (sets p.object) s.object l.1) (pow_mono h.object.most),
    )

module _ (v : PolicyValue) (a : ℕ) (s : Sets) where
  pub invalid : valid v ≡ false → refused 11 ≡ decide v a s
  unfolding decide first_broken
  invalid e = rw e

  module _ (e : valid v ≡ true) where
    pub no_action_lem : actions v.form ≤ a → refused 12 ≡ decide v a s
    unfolding decide first_broken policy_of
    no_action_lem h = rw (e, le-leb (actions v.form) a h)

    pub no_set : a < actions v.form → lacking (policy_of v) s ≡ true → refused 19 ≡ decide v a s
    unfolding decide first_broken policy_of
    no_set h l = rw (e, lt-leb (actions v.form) a h, l)

    pub by_formula : a < actions v.form → lacking (policy_of v) s ≡ false
        → (b : Bool) → b ≡ grants (policy_of v) a s → decided b ≡ decide v a s
    unfolding decide first_broken policy_of
    by_formula h l b g = rw (e, lt-leb (actions v.form) a h, l, ← g)
