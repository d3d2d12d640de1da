-- What the code keeps of a policy to say where an action is granted.
use Rattle.std.specs.Prelude.{ℕ, zero, suc, ◌≤◌, ◌<◌, ◌≡◌, Bool, false, ◌&&◌, ◌||◌, List, eqb, get_or}
use Rattle.basis.specs.Lists.{any}
use Rattle.sets.specs.Set.{has}
use Rattle.words.specs.declared.Holding.TheVariants.{User, Object}
use Rattle.policy.specs.Limits.{actions, most_values}
use Rattle.policy.specs.Policy.{Policy}
use Rattle.policy.specs.Value.{word_places, words_in, rules_of, pairs_of}
use Rattle.policy.specs.declared.value.Pair.{Pair}
use Rattle.policy.specs.declared.value.RuleValue.{RuleValue}
use Rattle.formula.specs.Truth.{Sets, holds, truth, grants}
use Rattle.formula.specs.Inner.Fits.{RulesFit, PairsFit}
use Rattle.formula.specs.declared.grant.Grant.{Grant}
use Rattle.formula.specs.declared.grant.Grants.{Grants}

-- whether the formula of a rule is true at these sets
abbrev pub rule_true : Policy → RuleValue → Sets → Bool
rule_true p r s = truth p s (words_in r.count r.words)

-- the test passes at some number below n
unfoldable pub some : (ℕ → Bool) → ℕ → Bool
some f zero = false
some f (suc n) = some f n || f n

-- the object set holds a value of this set of values, or a junior of it
abbrev pub partner_held : Policy → Sets → ℕ → Bool
partner_held p s set = some (λ w. has set w && holds p s (Object w)) most_values

-- the user set holds some value, or a senior of it, and the object set one that is paired with it, or a junior of that
abbrev pub paired_at : Policy → List ℕ → Sets → Bool
paired_at p paired s = some (λ v. holds p s (User v) && partner_held p s (get_or paired v 0)) most_values

-- these sets are what the action's pairs say
abbrev pub Paired : ℕ → List Pair → List ℕ → Type 0
Paired a xs paired =
    (v w : ℕ) → v < most_values → w < most_values
    → has (get_or paired v 0) w ≡ any (λ x. eqb x.action a && (eqb x.user v && eqb w x.object)) xs

-- whether this grants at these sets
abbrev pub grants_at : Policy → Grant → Sets → Bool
grants_at p g s = rule_true p g.rule s || paired_at p g.paired s

-- this grants the action, at the sets at which the policy does
pub record GrantOf (p : Policy) (a : ℕ) (g : Grant) : Type 0 where
  pub few : g.rule.count ≤ word_places
  pub same : (s : Sets) → grants_at p g s ≡ grants p a s

-- this grants the actions of the policy
pub record GrantsOf (p : Policy) (g : Grants) : Type 0 where
  pub fit : RulesFit (actions p.form) g.rules
  pub rules : p.rules ≡ rules_of g.rules
  pub pairs-fit : PairsFit (actions p.form) g.pairs
  pub pairs : p.pairs ≡ pairs_of g.pairs
