-- What the evaluator asks of a policy value, and check 11 gives.
use Rattle.std.specs.Prelude.{ℕ, ◌≤◌, ◌<◌, take}
use mathlib.Core.List.{Memᴰ}
use Rattle.seniority.specs.Inner.{Ordered}
use Rattle.policy.specs.Limits.{actions, most_values}
use Rattle.policy.specs.Policy.{total}
use Rattle.policy.specs.Value.{word_places, rule_places, pair_places, side_of, line_places}
use Rattle.policy.specs.declared.value.RuleValue.{RuleValue}
use Rattle.policy.specs.declared.value.Rules.{Rules}
use Rattle.policy.specs.declared.value.SideValue.{SideValue}
use Rattle.policy.specs.declared.value.Pair.{Pair}
use Rattle.policy.specs.declared.value.Pairs.{Pairs}
use Rattle.policy.specs.declared.value.PolicyValue.{PolicyValue}

pub record SideFits (s : SideValue) : Type 0 where
  pub most : total (side_of s) ≤ most_values
  pub lines : s.lines ≤ line_places
  pub ordered : Ordered most_values (take s.lines s.seniority)

-- of n actions
pub record RuleFits (n : ℕ) (r : RuleValue) : Type 0 where
  pub action : r.action < n
  pub words : r.count ≤ word_places

-- the rules before the count fit
pub record RulesFit (n : ℕ) (rs : Rules) : Type 0 where
  pub count : rs.count ≤ rule_places
  pub each : (r : RuleValue) → Memᴰ r (take rs.count rs.entries) → RuleFits n r

-- a pair of n actions, and of values that vectors have places for
pub record PairFits (n : ℕ) (x : Pair) : Type 0 where
  pub action : x.action < n
  pub user : x.user < most_values
  pub object : x.object < most_values

-- the pairs before the count fit
pub record PairsFit (n : ℕ) (xs : Pairs) : Type 0 where
  pub count : xs.count ≤ pair_places
  pub each : (x : Pair) → Memᴰ x (take xs.count xs.entries) → PairFits n x

pub record ValueFits (v : PolicyValue) : Type 0 where
  pub user : SideFits v.user
  pub object : SideFits v.object
  pub rules : RulesFit (actions v.form) v.rules
  pub pairs : PairsFit (actions v.form) v.pairs
