-- The policy value gives its policy back where the words of the rules are in digits, as those of a sound policy are;
-- and what one user, object or rule more does to it.
use Prim.Native.Nat.{ℕ, ◌+◌, ◌<◌}
use mathlib.Core.Path.{◌≡◌, refl}
use mathlib.Core.Bool.{true}
use mathlib.Core.List.{List, [], ◌∷◌, ◌++◌, map}
use lib.ListN.{length, set}
use Rattle.basis.specs.Lists.{all}
use Rattle.basis.proofs.Bools.{and_left, and_right}
use Rattle.basis.proofs.Snoc.{length-snoc}
use Rattle.basis.proofs.Padded.{take-padded, take-padded-map, padded-more, padded-more-map}
use Rattle.seniority.specs.Seniority.{direct}
use Rattle.words.specs.Word.{word_number}
use Rattle.words.proofs.Numbers.{words_back}
use Rattle.policy.specs.Policy.{Side, Rule, Policy, conflict, pair}
use Rattle.policy.specs.Checks.{with_entry}
use Rattle.policy.specs.Value.{width_places, entry_places, conflict_places, word_places, rule_places, pair_places, no_entry, no_rule, side_value, register, conflicts_value, rule_value, rules_value, pairs_value, value_of, side_of, entries_of, conflicts_of, rule_of, rules_of, pairs_of, policy_of, line_places}
use Rattle.policy.specs.Inner.Sound.{sound}
use Rattle.policy.specs.declared.value.Entry.{Entry}
use Rattle.policy.specs.declared.value.Register.{Register}
use Rattle.policy.specs.declared.value.RuleValue.{RuleValue}
use Rattle.policy.specs.declared.value.Rules.{Rules}
use Rattle.policy.specs.declared.value.Conflict.{Conflict}
use Rattle.policy.specs.declared.value.Pair.{Pair}
use Rattle.policy.proofs.Parts.{parts, whole}
use Rattle.policy.proofs.Bounds.{rule_digits, rules-digits}

-- ---- the value gives the policy back

pub side-value : (s : Side) → side_of (side_value s) ≡ s
unfolding side_of side_value
side-value s = rw (take-padded width_places 0 s.widths, take-padded line_places (direct 0 0) s.lines)

pub register-value : (es : List Entry) → entries_of (register es) ≡ es
unfolding entries_of register
register-value es = take-padded entry_places no_entry es

pub rule_value_lem : (r : Rule) → rule_digits r ≡ true → rule_of (rule_value r) ≡ r
unfolding rule_of rule_value
rule_value_lem r h = rw (take-padded-map word_number word_places 0 r.words, words_back r.words h)

rules-back : (rs : List Rule) → all rule_digits rs ≡ true → map rule_of (map rule_value rs) ≡ rs
unfolding all
rules-back [] h = refl
rules-back (r ∷ rs) h = rw (rule_value_lem r (and_left _ _ h), rules-back rs (and_right (rule_digits r) _ h))

pub rules-value : (rs : List Rule) → all rule_digits rs ≡ true → rules_of (rules_value rs) ≡ rs
unfolding rules_of rules_value
rules-value rs h = rw (take-padded-map rule_value rule_places no_rule rs) (rules-back rs h)

pub conflicts-value : (xs : List Conflict) → conflicts_of (conflicts_value xs) ≡ xs
unfolding conflicts_of conflicts_value
conflicts-value xs = take-padded conflict_places (conflict 0 0) xs

pub pairs-value : (xs : List Pair) → pairs_of (pairs_value xs) ≡ xs
unfolding pairs_of pairs_value
pairs-value xs = take-padded pair_places (pair 0 0 0) xs

pub policy-value : (p : Policy) → all rule_digits p.rules ≡ true → policy_of (value_of p) ≡ p
unfolding policy_of value_of
policy-value p h = rw (side-value p.user, side-value p.object, register-value p.users, register-value p.objects, conflicts-value p.conflicts, rules-value p.rules h, pairs-value p.pairs)

-- of a sound policy
pub sound-value : (p : Policy) → sound p ≡ true → policy_of (value_of p) ≡ p
sound-value p e = policy-value p (rules-digits p (parts p (whole p e).lists))

-- ---- one user, object or rule more is a store behind the last

abbrev pub more_entry : ℕ → ℕ → Register → Register
more_entry n s x = record { count = x.count + 1; entries = set x.entries x.count (record { number = n; set = s }) }

abbrev pub more_rule : RuleValue → Rules → Rules
more_rule r x = record { count = x.count + 1; entries = set x.entries x.count r }

pub more-entry : (n s : ℕ) (es : List Entry) → length es < entry_places → register (with_entry n s es) ≡ more_entry n s (register es)
unfolding register
more-entry n s es h = let e : Entry = record { number = n; set = s } in rw (length-snoc es e, padded-more entry_places no_entry es e h)

pub more-rule : (r : Rule) (rs : List Rule) → length rs < rule_places → rules_value (rs ++ (r ∷ [])) ≡ more_rule (rule_value r) (rules_value rs)
unfolding rules_value
more-rule r rs h = rw (length-snoc rs r, padded-more-map rule_value rule_places no_rule rs r h)
