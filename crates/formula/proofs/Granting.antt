-- What rules say of an action, going from one to the next.
use Rattle.std.specs.Prelude.{Option, Some}
use Prim.Native.Nat.{ℕ, ◌+◌, ◌≤◌, ◌<◌}
use mathlib.Core.Path.{◌≡◌, refl, sym, ◌∙◌, subst}
use mathlib.Core.Bool.{Bool, true, false, cond, ◌||◌}
use mathlib.Core.List.{List, [], ◌∷◌, map, Memᴰ}
use native.Mathlib.Nat.{lt_of_lt_of_le}
use native.Mathlib.Decide.{ℕ_discrete}
use native.Mathlib.Omega.{arith}
use lib.Dec.{eqb}
use lib.ListN.{length, get_or, set, take, drop}
use lib.Seq.{get_or-set_same, get_or-set_other}
use borrow.Author.Tests.{eq-eqb, ne_eqb}
use Rattle.basis.specs.Choice.{given, there}
use Rattle.basis.proofs.Lists.{get_or-in}
use Rattle.basis.proofs.Walk.{rest-next}
use Rattle.std.specs.List.{list_any}
use Rattle.sets.specs.Set.{has}
use Rattle.sets.proofs.Laws.{has-zero}
use Rattle.words.specs.declared.Word.{Word}
use Rattle.policy.specs.Policy.{Policy, formula_in}
use Rattle.policy.specs.Value.{rule_of, rules_of, words_in}
use Rattle.policy.specs.Limits.{most_actions}
use Rattle.policy.specs.declared.value.RuleValue.{RuleValue}
use Rattle.policy.specs.declared.value.Rules.{Rules}
use Rattle.policy.proofs.Forms.{actions-most}
use Rattle.formula.specs.Truth.{Sets, run, truth}
use Rattle.formula.specs.Inner.Fits.{RuleFits, RulesFit}
use Rattle.formula.specs.Inner.Grant.{rule_true, GrantsOf}
use Rattle.formula.specs.Inner.Lane.{in_block, Placed}
use Rattle.formula.specs.declared.grant.Grants.{Grants}
use Rattle.formula.proofs.Placing.{placed_seen}

-- ---- rules

-- what the code's arrays of rules have past their end
abbrev pub no_words : RuleValue
no_words = record { action = 0; count = 0; words = [] }

pub rule-at : (n : ℕ) (rs : Rules) → RulesFit n rs → let xs = take rs.count rs.entries in
    (i : ℕ) → i < length xs → RuleFits n (get_or xs i no_words)
rule-at n rs x i h = x.each _ (get_or-in (take rs.count rs.entries) i no_words h)

-- what the formulas of some rules say of an action
unfoldable pub outcome : Policy → Sets → List RuleValue → ℕ → Bool
outcome p s rs a = given (formula_in (map rule_of rs) a) false (truth p s)

either : (b : Bool) (ws : List Word) (x : Option (List Word)) (f : List Word → Bool)
    → given (cond b (Some ws) x) false f ≡ cond b (f ws) (given x false f)
either true ws x f = refl
either false ws x f = refl

module _ (p : Policy) (s : Sets) where
  outcome-first : (r : RuleValue) (rs : List RuleValue) (a : ℕ)
      → outcome p s (r ∷ rs) a ≡ cond (eqb r.action a) (rule_true p r s) (outcome p s rs a)
  unfolding outcome formula_in rule_of
  outcome-first r rs a =
      either (eqb r.action a) (words_in r.count r.words) (formula_in (map rule_of rs) a) (truth p s)

  -- the rule at place i is the action's, or is not
  module _ (rs : List RuleValue) (i a : ℕ) (h : i < length rs) where
    pub outcome-found : (get_or rs i no_words).action ≡ a → rule_true p (get_or rs i no_words) s ≡ outcome p s (drop i rs) a
    outcome-found e =
        rw (rest-next no_words rs i h, outcome-first (get_or rs i no_words) (drop (i + 1) rs) a, eq-eqb (get_or rs i no_words).action a e)

    pub outcome-passed : ((get_or rs i no_words).action ≡ a → ⊥) → outcome p s (drop (i + 1) rs) a ≡ outcome p s (drop i rs) a
    outcome-passed e =
        rw (rest-next no_words rs i h, outcome-first (get_or rs i no_words) (drop (i + 1) rs) a, ne_eqb (get_or rs i no_words).action a e)

  -- no words, and so nothing is true
  pub nothing-true : (r : RuleValue) → r.count ≡ 0 → rule_true p r s ≡ false
  unfolding truth run
  nothing-true r e = rw e

  -- no rule, and so no words
  pub outcome-none : (r : RuleValue) (a : ℕ) → r.count ≡ 0 → rule_true p r s ≡ outcome p s [] a
  unfolding outcome formula_in truth run
  outcome-none r a e = rw e

  -- all rules
  pub outcome-all : (rs : Rules) (a : ℕ) → outcome p s (take rs.count rs.entries) a ≡ given (formula_in (rules_of rs) a) false (truth p s)
  unfolding outcome rules_of
  outcome-all rs a = refl

  -- rules of n actions say nothing of another
  pub outcome-past : (rs : List RuleValue) (n a : ℕ) → ((r : RuleValue) → Memᴰ r rs → RuleFits n r) → n ≤ a → outcome p s rs a ≡ false
  unfolding outcome formula_in
  outcome-past [] n a f h = refl
  outcome-past (r ∷ rs) n a f h =
      let l = f r (Memᴰ.head refl) in
      outcome-first r rs a
      ∙ rw (ne_eqb r.action a (λ e. omega (arith, l.action))) (outcome-past rs n a (λ x m. f x (Memᴰ.tail m)) h)

-- whether one of some rules is the action's
pub own-rule : (a : ℕ) (rs : List RuleValue) → list_any (λ r. eqb r.action a) rs ≡ there (formula_in (map rule_of rs) a)
unfolding formula_in rule_of
own-rule a [] = refl
own-rule a (r ∷ rs) = first (eqb r.action a) (words_in r.count r.words) (formula_in (map rule_of rs) a) (own-rule a rs)
  where
    first : (b : Bool) (ws : List Word) {c : Bool} (x : Option (List Word)) → c ≡ there x → (b || c) ≡ there (cond b (Some ws) x)
    first true ws x e = refl
    first false ws x e = e

-- ---- all actions

-- rules that fit the actions of one form fit those of any
pub rules-placed : (p : Policy) (g : Grants) → GrantsOf p g → RulesFit most_actions g.rules
rules-placed p g x =
    record {
      count = x.fit.count;
      each = λ r m. let f = x.fit.each r m in record { action = lt_of_lt_of_le f.action (actions-most p.form); words = f.words };
    }

-- in lane k the numbers of all actions say what the formulas of these rules say
abbrev pub Says : Policy → Sets → List RuleValue → (ℕ → ℕ) → ℕ → Type 0
Says p s rs granted k = (a : ℕ) → a < most_actions → has (granted a) k ≡ outcome p s rs a

pub says_none : (p : Policy) (s : Sets) (granted : ℕ → ℕ) (k : ℕ) → ((a : ℕ) → a < most_actions → granted a ≡ 0) → Says p s [] granted k
unfolding outcome formula_in
says_none p s granted k e a h = rw (e a h) (has-zero k)

-- a place set, seen at every place
pub set-seen : (P : ℕ → ℕ → Type 0) (xs : List ℕ) (i x : ℕ) → i < length xs → P i x
    → ((a : ℕ) → (i ≡ a → ⊥) → P a (get_or xs a 0)) → (a : ℕ) → P a (get_or (set xs i x) a 0)
set-seen P xs i x l new old a =
    elim (ℕ_discrete i a) [
      | yes q ↦ subst (λ (y : ℕ). P y (get_or (set xs i x) y 0)) q (subst (P i) (sym (get_or-set_same xs i x 0 l)) new)
      | no q ↦ subst (P a) (sym (get_or-set_other xs i a x 0 (λ z. q (sym z)))) (old a q)
    ]

-- one rule more, before the others, takes the place of its action
pub says-next : (p : Policy) (s : Sets) (r : RuleValue) (rs : List RuleValue)
    → (k : ℕ) {n b : ℕ} {P : ℕ → ℕ → Type 0} {old new : List ℕ}
    → Placed n r.action P old new → b < n → has (in_block new n b r.action) k ≡ rule_true p r s
    → Says p s rs (in_block old n b) k → Says p s (r ∷ rs) (in_block new n b) k
says-next p s r rs k x g e old =
    placed_seen (λ a y. a < most_actions → has y k ≡ outcome p s (r ∷ rs) a) x g
    (λ b. rw (outcome-first p s r rs r.action, eq-eqb r.action r.action refl) e)
    (λ a q b. rw (outcome-first p s r rs a, ne_eqb r.action a q) (old a b))
