-- A value that passes check 11 can be written: its counts are within their arrays, its words can be spelt and its text
-- is not too long.
use Prim.Native.Nat.{◌≤◌}
use mathlib.Core.Path.{◌≡◌}
use mathlib.Core.Bool.{true}
use mathlib.Core.List.{map}
use borrow.Author.Tests.{le-leb}
use lib.ListN.{length}
use Rattle.basis.proofs.Lists.{all_of, all_map}
use Rattle.basis.proofs.Padded.{take-padded-map}
use Rattle.words.specs.Word.{word_number, numbered}
use Rattle.words.specs.Inner.{in_digits}
use Rattle.words.proofs.Numbers.{words_back}
use Rattle.policy.specs.Limits.{text_bytes}
use Rattle.policy.specs.Policy.{Side, Rule, Policy}
use Rattle.policy.specs.Text.{text_of}
use Rattle.policy.specs.Valid.{valid}
use Rattle.policy.specs.Value.{word_places, rule_places, no_rule, side_value, register, conflicts_value, rule_value, rules_value, pairs_value, value_of, policy_of}
use Rattle.policy.specs.declared.value.PolicyValue.{PolicyValue}
use Rattle.policy.proofs.Parts.{RuleParts, Parts, parts, whole}
use Rattle.policy.proofs.Bounds.{WithinSide, rule-bounds, rule-digits, parts_within}
use Rattle.policy.proofs.RoundTrip.{text-short}
use Rattle.policy.proofs.Valid.{valid-stored}
use Rattle.writer.specs.Inner.Put.{rule_writable}
use Rattle.writer.specs.Inner.Whole.{SideWithin, RulesWithin, Writable}

side-within : (s : Side) → WithinSide s → SideWithin (side_value s)
unfolding side_value
side-within s h = record { widths = h.widths; lines = h.lines }

module _ (p : Policy) (t : Parts p) where
  rule-writable : (r : Rule) → RuleParts p r → rule_writable (rule_value r) ≡ true
  unfolding rule_writable rule_value
  rule-writable r q =
      let d = rule-digits p t r q in
      rw (
        le-leb (length r.words) word_places q.few,
        take-padded-map word_number word_places 0 r.words,
        ← all_map in_digits numbered (map word_number r.words),
        words_back r.words d,
      )
      d

  rules-within : length p.rules ≤ rule_places → RulesWithin (rules_value p.rules)
  unfolding rules_value
  rules-within h =
      record {
        entries = h;
        words =
            rw (take-padded-map rule_value rule_places no_rule p.rules, all_map rule_writable rule_value p.rules)
            (all_of (λ r. rule_writable (rule_value r)) p.rules (λ r m. rule-writable r (rule-bounds p p.rules t.rules r m)));
      }

  value-writable : Writable (value_of p)
  unfolding value_of register conflicts_value pairs_value
  value-writable =
      let w = parts_within p t in
      record {
        user = side-within p.user w.user;
        object = side-within p.object w.object;
        users = record { entries = w.users };
        objects = record { entries = w.objects };
        conflicts = record { entries = w.conflicts };
        rules = rules-within w.rules;
        pairs = record { entries = w.pairs };
      }

module _ (v : PolicyValue) (e : valid v ≡ true) where
  pub valid-writable : Writable v
  valid-writable =
      let s = valid-stored v e in
      rw s.0 at (value-writable (policy_of v) (parts (policy_of v) (whole (policy_of v) s.1).lists))

  pub valid-short : length (text_of (policy_of v)) ≤ text_bytes
  valid-short = text-short (policy_of v) (valid-stored v e).1
