-- The parts of check 11, a test for each list of a policy value: it is what the lists read from it are stored as, and
-- these pass their checks.
use Rattle.std.specs.Prelude.{ℕ, Bool, ◌&&◌, List, eqb, leb, length, take, None}
use Rattle.basis.specs.Lists.{same, padded}
use Rattle.seniority.specs.Seniority.{direct}
use Rattle.seniority.specs.declared.Direct.{Direct}
use Rattle.policy.specs.Limits.{actions, user_numbers, object_numbers, most_conflicts, most_pairs}
use Rattle.policy.specs.Checks.{SideSizes, Sizes, conflict_fits, pair_fits}
use Rattle.policy.specs.Value.{width_places, side_value, register, conflicts_value, rule_value, rules_value, pairs_value, side_of, entries_of, conflicts_of, rule_of, rules_of, pairs_of, line_places}
use Rattle.policy.specs.Valid.{same_line, same_side, same_register, same_conflicts, same_rule, same_rules, same_pairs}
use Rattle.policy.specs.Inner.Sound.{widths_sound, rising, line_in, line_above, number_in, number_above, set_above, rule_sound, action_above, pair_higher, side_sound}
use Rattle.policy.specs.declared.value.SideValue.{SideValue}
use Rattle.policy.specs.declared.value.Register.{Register}
use Rattle.policy.specs.declared.value.Conflicts.{Conflicts}
use Rattle.policy.specs.declared.value.RuleValue.{RuleValue}
use Rattle.policy.specs.declared.value.Rules.{Rules}
use Rattle.policy.specs.declared.value.Pairs.{Pairs}

-- an array of m places holds n elements and is blank behind them
unfoldable pub holds : {A : Type 0} → (A → A → Bool) → ℕ → A → List A → ℕ → Bool
holds e m blank xs n = eqb (length (take n xs)) n && same e (padded m blank (take n xs)) xs

-- ---- a side

unfoldable pub widths_valid : ℕ → List ℕ → ℕ → Bool
widths_valid most ws n = holds eqb width_places 0 ws n && (leb 1 (length (take n ws)) && widths_sound most 0 (take n ws))

unfoldable pub lines_valid : SideSizes → List Direct → ℕ → Bool
lines_valid s ls n = holds same_line line_places (direct 0 0) ls n && rising (line_in s) line_above None (take n ls)

unfoldable pub side_valid : ℕ → SideValue → Bool
side_valid most x = same_side (side_value (side_of x)) x && (leb 1 (length (side_of x).widths) && side_sound most (side_of x))

-- ---- users or objects

-- of a side of so many values
unfoldable pub register_valid : ℕ → ℕ → Register → Bool
register_valid most total x = same_register (register (entries_of x)) x && rising (number_in most total) number_above None (entries_of x)

-- ---- conflicts

-- of so many user values
unfoldable pub conflicts_valid : ℕ → Conflicts → Bool
conflicts_valid u x =
    same_conflicts (conflicts_value (conflicts_of x)) x
    && (leb (length (conflicts_of x)) most_conflicts && rising (conflict_fits u) set_above None (conflicts_of x))

-- ---- rules

-- of n actions and sides of these sizes
unfoldable pub rule_valid : ℕ → Sizes → RuleValue → Bool
rule_valid n s x = same_rule (rule_value (rule_of x)) x && rule_sound n s (rule_of x)

unfoldable pub rules_valid : ℕ → Sizes → Rules → Bool
rules_valid n s x = same_rules (rules_value (rules_of x)) x && rising (rule_sound n s) action_above None (rules_of x)

-- ---- pairs

-- of n actions and sides of these sizes
unfoldable pub pairs_valid : ℕ → Sizes → Pairs → Bool
pairs_valid n s x =
    same_pairs (pairs_value (pairs_of x)) x
    && (leb (length (pairs_of x)) most_pairs && rising (pair_fits n s.user.values s.object.values) pair_higher None (pairs_of x))

-- ---- the value

-- the lists, for sides of these sizes
unfoldable pub lists_valid : ℕ → Sizes → Register → Register → Conflicts → Rules → Pairs → Bool
lists_valid form s users objects conflicts rules pairs =
    register_valid user_numbers s.user.values users
    && (register_valid object_numbers s.object.values objects
    && (conflicts_valid s.user.values conflicts && (rules_valid (actions form) s rules && pairs_valid (actions form) s pairs)))
