-- Values that can be written, and their text list by list.
use Rattle.std.specs.Prelude.{ℕ, ◌≤◌, ◌≡◌, true, List, ◌++◌, take}
use Rattle.basis.specs.Lists.{all}
use Rattle.text.specs.Kind.{word_of}
use Rattle.text.specs.declared.kind.Kind.TheVariants.{Policy, Uattr, Oattr, Usen, Osen, User, Object, Conflict, Rule, Pair, End}
use Rattle.policy.specs.Value.{width_places, entry_places, conflict_places, rule_places, pair_places, line_places}
use Rattle.policy.specs.declared.value.SideValue.{SideValue}
use Rattle.policy.specs.declared.value.Register.{Register}
use Rattle.policy.specs.declared.value.Conflicts.{Conflicts}
use Rattle.policy.specs.declared.value.Rules.{Rules}
use Rattle.policy.specs.declared.value.Pairs.{Pairs}
use Rattle.policy.specs.declared.value.PolicyValue.{PolicyValue}
use Rattle.writer.specs.Inner.Put.{each, bare_line, one_line, direct_line, entry_line, conflict_line, rule_line, pair_line, rule_writable}

-- counts are within their arrays, and words can be spelt
pub record SideWithin (s : SideValue) : Type 0 where
  pub widths : s.attributes ≤ width_places
  pub lines : s.lines ≤ line_places

pub record RegisterWithin (r : Register) : Type 0 where
  pub entries : r.count ≤ entry_places

pub record ConflictsWithin (x : Conflicts) : Type 0 where
  pub entries : x.count ≤ conflict_places

pub record RulesWithin (r : Rules) : Type 0 where
  pub entries : r.count ≤ rule_places
  pub words : all rule_writable (take r.count r.entries) ≡ true

pub record PairsWithin (x : Pairs) : Type 0 where
  pub entries : x.count ≤ pair_places

pub record Writable (v : PolicyValue) : Type 0 where
  pub user : SideWithin v.user
  pub object : SideWithin v.object
  pub users : RegisterWithin v.users
  pub objects : RegisterWithin v.objects
  pub conflicts : ConflictsWithin v.conflicts
  pub rules : RulesWithin v.rules
  pub pairs : PairsWithin v.pairs

-- the text up to the seniorities, and the rest of it
abbrev pub sides_text : PolicyValue → List ℕ
sides_text v =
    one_line (word_of Policy) v.form
    ++ (each (one_line (word_of Uattr)) (take v.user.attributes v.user.widths)
    ++ (each (one_line (word_of Oattr)) (take v.object.attributes v.object.widths)
    ++ (each (direct_line (word_of Usen)) (take v.user.lines v.user.seniority)
    ++ each (direct_line (word_of Osen)) (take v.object.lines v.object.seniority))))

abbrev pub lists_text : PolicyValue → List ℕ
lists_text v =
    each (entry_line (word_of User)) (take v.users.count v.users.entries)
    ++ (each (entry_line (word_of Object)) (take v.objects.count v.objects.entries)
    ++ (each (conflict_line (word_of Conflict)) (take v.conflicts.count v.conflicts.entries)
    ++ (each (rule_line (word_of Rule)) (take v.rules.count v.rules.entries)
    ++ (each (pair_line (word_of Pair)) (take v.pairs.count v.pairs.entries) ++ bare_line (word_of End)))))
