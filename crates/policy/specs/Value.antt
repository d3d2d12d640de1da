-- The policy value: a policy's lists in arrays, each with its count and blank behind it.
use Rattle.std.specs.Prelude.{ℕ, List, [], map, length, take}
use Rattle.basis.specs.Lists.{padded}
use Rattle.seniority.specs.Seniority.{direct}
use Rattle.words.specs.Word.{word_number, numbered}
use Rattle.words.specs.declared.Word.{Word}
use Rattle.policy.specs.Limits.{most_values, most_actions, object_numbers, most_words, most_lines, most_conflicts, most_pairs}
use Rattle.policy.specs.Policy.{Side, Rule, Policy, conflict, pair}
use Rattle.policy.specs.declared.value.Entry.{Entry}
use Rattle.policy.specs.declared.value.Conflict.{Conflict}
use Rattle.policy.specs.declared.value.Conflicts.{Conflicts}
use Rattle.policy.specs.declared.value.SideValue.{SideValue}
use Rattle.policy.specs.declared.value.Register.{Register}
use Rattle.policy.specs.declared.value.RuleValue.{RuleValue}
use Rattle.policy.specs.declared.value.Rules.{Rules}
use Rattle.policy.specs.declared.value.Pair.{Pair}
use Rattle.policy.specs.declared.value.Pairs.{Pairs}
use Rattle.policy.specs.declared.value.PolicyValue.{PolicyValue}

-- the places of each array
abbrev pub width_places : ℕ
width_places = most_values

abbrev pub line_places : ℕ
line_places = most_lines

abbrev pub entry_places : ℕ
entry_places = object_numbers

abbrev pub conflict_places : ℕ
conflict_places = most_conflicts

abbrev pub word_places : ℕ
word_places = most_words

abbrev pub rule_places : ℕ
rule_places = most_actions

abbrev pub pair_places : ℕ
pair_places = most_pairs

abbrev pub no_entry : Entry
no_entry = record { number = 0; set = 0 }

-- ---- from a policy to its value

unfoldable pub side_value : Side → SideValue
side_value s =
    record {
      attributes = length s.widths;
      widths = padded width_places 0 s.widths;
      lines = length s.lines;
      seniority = padded line_places (direct 0 0) s.lines;
    }

unfoldable pub register : List Entry → Register
register es = record { count = length es; entries = padded entry_places no_entry es }

unfoldable pub conflicts_value : List Conflict → Conflicts
conflicts_value xs = record { count = length xs; entries = padded conflict_places (conflict 0 0) xs }

unfoldable pub no_rule : RuleValue
no_rule = record { action = 0; count = 0; words = padded word_places 0 [] }

-- a rule, with each word by its number
unfoldable pub rule_value : Rule → RuleValue
rule_value r = record { action = r.action; count = length r.words; words = padded word_places 0 (map word_number r.words) }

unfoldable pub rules_value : List Rule → Rules
rules_value rs = record { count = length rs; entries = padded rule_places no_rule (map rule_value rs) }

unfoldable pub pairs_value : List Pair → Pairs
pairs_value xs = record { count = length xs; entries = padded pair_places (pair 0 0 0) xs }

unfoldable pub value_of : Policy → PolicyValue
value_of p =
    record {
      form = p.form;
      user = side_value p.user;
      object = side_value p.object;
      users = register p.users;
      objects = register p.objects;
      conflicts = conflicts_value p.conflicts;
      rules = rules_value p.rules;
      pairs = pairs_value p.pairs;
    }

-- ---- and back: the places before each count

unfoldable pub side_of : SideValue → Side
side_of s = record { widths = take s.attributes s.widths; lines = take s.lines s.seniority }

unfoldable pub entries_of : Register → List Entry
entries_of r = take r.count r.entries

unfoldable pub conflicts_of : Conflicts → List Conflict
conflicts_of x = take x.count x.entries

-- the words whose numbers stand in the first n places
abbrev pub words_in : ℕ → List ℕ → List Word
words_in n numbers = map numbered (take n numbers)

unfoldable pub rule_of : RuleValue → Rule
rule_of r = record { action = r.action; words = words_in r.count r.words }

unfoldable pub rules_of : Rules → List Rule
rules_of r = map rule_of (take r.count r.entries)

unfoldable pub pairs_of : Pairs → List Pair
pairs_of x = take x.count x.entries

unfoldable pub policy_of : PolicyValue → Policy
policy_of v =
    record {
      form = v.form;
      user = side_of v.user;
      object = side_of v.object;
      users = entries_of v.users;
      objects = entries_of v.objects;
      conflicts = conflicts_of v.conflicts;
      rules = rules_of v.rules;
      pairs = pairs_of v.pairs;
    }
