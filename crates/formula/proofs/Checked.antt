-- What check 11 gives the evaluator: few values, ordered lines, rules whose actions and words fit, and pairs that fit.
use Prim.Native.Nat.{ℕ}
use mathlib.Core.Path.{◌≡◌, subst}
use mathlib.Core.Bool.{true}
use Rattle.basis.proofs.Padded.{take-padded, take-padded-map}
use native.Mathlib.Nat.{lt_of_lt_of_le}
use Rattle.basis.proofs.Places.{mapped_each}
use Rattle.seniority.specs.Seniority.{direct}
use Rattle.seniority.proofs.Laws.{ordered-more}
use Rattle.policy.specs.Limits.{values, actions, most_values}
use Rattle.policy.specs.Policy.{Side, Policy, pair, total}
use Rattle.policy.specs.Value.{rule_places, pair_places, side_value, rule_value, rules_value, pairs_value, no_rule, value_of, policy_of, line_places}
use Rattle.policy.specs.Valid.{valid}
use Rattle.policy.specs.Inner.Sound.{sound}
use Rattle.policy.specs.declared.value.PolicyValue.{PolicyValue}
use Rattle.policy.proofs.Parts.{SideParts, Parts, parts, whole}
use Rattle.policy.proofs.Bounds.{WithinSide, total-few, lines-ordered, rule-bounds, pair-bounds, parts_within}
use Rattle.policy.proofs.Values.{side-value}
use Rattle.policy.proofs.Valid.{valid-stored}
use Rattle.formula.specs.Inner.Fits.{SideFits, RuleFits, RulesFit, PairsFit, ValueFits}

side-fits : (form : ℕ) (s : Side) → SideParts (values form) s → WithinSide s → SideFits (side_value s)
unfolding side_value
side-fits form s h w =
    record {
      most = rw (side-value s) (total-few form s h);
      lines = w.lines;
      ordered = rw (take-padded line_places (direct 0 0) s.lines) (ordered-more (total s) most_values (total-few form s h) s.lines (lines-ordered (values form) s h));
    }

rules-fit : (p : Policy) → Parts p → RulesFit (actions p.form) (rules_value p.rules)
unfolding rules_value rule_value
rules-fit p h =
    record {
      count = (parts_within p h).rules;
      each = rw (take-padded-map rule_value rule_places no_rule p.rules)
          (mapped_each rule_value (RuleFits (actions p.form)) p.rules (λ r m. let b = rule-bounds p p.rules h.rules r m in record { action = b.action; words = b.few }));
    }

pairs-fit : (p : Policy) → Parts p → PairsFit (actions p.form) (pairs_value p.pairs)
unfolding pairs_value
pairs-fit p h =
    record {
      count = h.few-pairs;
      each = rw (take-padded pair_places (pair 0 0 0) p.pairs)
          (λ x m. let b = pair-bounds p h x m in
          record {
            action = b.action;
            user = lt_of_lt_of_le b.user (total-few p.form p.user h.user);
            object = lt_of_lt_of_le b.object (total-few p.form p.object h.object);
          });
    }

value-fits : (p : Policy) → sound p ≡ true → ValueFits (value_of p)
unfolding value_of
value-fits p e =
    let h = parts p (whole p e).lists in let w = parts_within p h in
    record { user = side-fits p.form p.user h.user w.user; object = side-fits p.form p.object h.object w.object; rules = rules-fit p h; pairs = pairs-fit p h }

pub valid-fits : (v : PolicyValue) → valid v ≡ true → ValueFits v
valid-fits v e = let s = valid-stored v e in subst ValueFits s.0 (value-fits (policy_of v) s.1)
