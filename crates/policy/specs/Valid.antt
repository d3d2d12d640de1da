-- Check 11 on a policy value.
use Rattle.std.specs.Prelude.{ℕ, ◌≡◌, Bool, false, ◌&&◌, List, eqb}
use Rattle.basis.specs.Lists.{same}
use Rattle.seniority.specs.declared.Direct.{Direct}
use Rattle.policy.specs.Policy.{Policy}
use Rattle.policy.specs.Read.{Outcome, Accepted, Refused, read_text}
use Rattle.policy.specs.Text.{text_of}
use Rattle.policy.specs.Value.{value_of, policy_of}
use Rattle.policy.specs.declared.value.Entry.{Entry}
use Rattle.policy.specs.declared.value.Conflict.{Conflict}
use Rattle.policy.specs.declared.value.Conflicts.{Conflicts}
use Rattle.policy.specs.declared.value.SideValue.{SideValue}
use Rattle.policy.specs.declared.value.Register.{Register}
use Rattle.policy.specs.declared.value.RuleValue.{RuleValue}
use Rattle.policy.specs.declared.value.Rules.{Rules}
use Rattle.policy.specs.declared.value.Pair.{Pair}
use Rattle.policy.specs.declared.value.Pairs.{Pairs}
use Rattle.policy.specs.declared.value.PolicyValue.{PolicyValue}

-- 11: "A policy value handed in is not what reading some accepted text yields"
-- reading some text yields the value
abbrev pub Yielded : PolicyValue → Type 0
Yielded v = (t : List ℕ) × (p : Policy) × (read_text t ≡ Accepted p) × (v ≡ value_of p)

-- ---- equality of two values

abbrev pub same_line : Direct → Direct → Bool
same_line x y = eqb x.senior y.senior && eqb x.junior y.junior

abbrev pub same_entry : Entry → Entry → Bool
same_entry x y = eqb x.number y.number && eqb x.set y.set

abbrev pub same_conflict : Conflict → Conflict → Bool
same_conflict x y = eqb x.set y.set && eqb x.most y.most

abbrev pub same_pair : Pair → Pair → Bool
same_pair x y = eqb x.action y.action && (eqb x.user y.user && eqb x.object y.object)

unfoldable pub same_side : SideValue → SideValue → Bool
same_side x y =
    eqb x.attributes y.attributes
    && (same eqb x.widths y.widths && (eqb x.lines y.lines && same same_line x.seniority y.seniority))

unfoldable pub same_register : Register → Register → Bool
same_register x y = eqb x.count y.count && same same_entry x.entries y.entries

unfoldable pub same_conflicts : Conflicts → Conflicts → Bool
same_conflicts x y = eqb x.count y.count && same same_conflict x.entries y.entries

unfoldable pub same_rule : RuleValue → RuleValue → Bool
same_rule x y = eqb x.action y.action && (eqb x.count y.count && same eqb x.words y.words)

unfoldable pub same_rules : Rules → Rules → Bool
same_rules x y = eqb x.count y.count && same same_rule x.entries y.entries

unfoldable pub same_pairs : Pairs → Pairs → Bool
same_pairs x y = eqb x.count y.count && same same_pair x.entries y.entries

unfoldable pub same_value : PolicyValue → PolicyValue → Bool
same_value x y =
    eqb x.form y.form
    && (same_side x.user y.user
    && (same_side x.object y.object
    && (same_register x.users y.users
    && (same_register x.objects y.objects
    && (same_conflicts x.conflicts y.conflicts && (same_rules x.rules y.rules && same_pairs x.pairs y.pairs))))))

-- ---- a test of check 11

-- what reading yields is the value
abbrev pub yields : Outcome → PolicyValue → Bool
yields (Refused n l) v = false
yields (Accepted p) v = same_value (value_of p) v

-- reading the value's own text gives it back; `valid-iff` says that some text does so exactly then
unfoldable pub valid : PolicyValue → Bool
valid v = yields (read_text (text_of (policy_of v))) v
