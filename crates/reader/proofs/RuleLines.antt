-- The rules of a text, line by line.
use Rattle.std.specs.Prelude.{None, Some, Result, Ok, Err}
use Prim.Native.Nat.{ℕ, ◌+◌, ◌≤◌, ◌<◌}
use mathlib.Core.Path.{◌≡◌, refl, sym, ap, ◌∙◌}
use mathlib.Core.Bool.{Bool, true, false, not}
use mathlib.Core.List.{List, [], ◌∷◌, ◌++◌}
use native.Mathlib.Numerals.{add-one}
use native.Mathlib.Omega.{arith}
use lib.Dec.{leb, ltb}
use lib.ListN.{length, drop}
use Rattle.basis.specs.Choice.{given, check, first_broken}
use Rattle.basis.specs.Lists.{all, last}
use Rattle.basis.proofs.Snoc.{last_snoc}
use Rattle.text.specs.Kind.{layout_of, place_of}
use Rattle.text.specs.declared.kind.Kind.TheVariants.{Rule as RuleKind}
use Rattle.text.specs.declared.number.Numbers.{Numbers}
use Rattle.words.specs.declared.Word.{Word}
use Rattle.policy.specs.Checks.{Sizes, sizes, in_range, rises, widths_equal, balanced, balances}
use Rattle.policy.specs.Line.{one_number, form_fits, numbers_of, words_of}
use Rattle.policy.specs.Policy.{Rule, Policy}
use Rattle.policy.specs.Value.{rule_places, rules_value}
use Rattle.policy.specs.declared.refusal.Refusal.{Refusal}
use Rattle.policy.specs.declared.value.RuleValue.{RuleValue}
use Rattle.policy.specs.declared.value.Rejection.{Rejection}
use Rattle.policy.specs.Read.{read_lines}
use Rattle.text.specs.Parts.{lines}
use Rattle.policy.specs.declared.value.Rules.{Rules}
use Rattle.policy.proofs.Forms.{actions-most}
use Rattle.policy.proofs.Values.{more_rule, more-rule}
use Rattle.checks.specs.Inner.{both_in}
use Rattle.checks.specs.declared.shape.Shapes.{Shapes}
use Rattle.line.specs.Inner.Head.{numbers_fit}
use Rattle.line.specs.Inner.Rule.{are_words, rule_from, admitted_rule, number_in}
use Rattle.line.proofs.Rules.{RuleTaken, rule-first-broken, rule-taken}
use Rattle.reader.specs.Inner.Cursor.{fields_at, refusal_at, refused_as, LineAt, Stands, NextOf, ahead_is}
use Rattle.reader.specs.Inner.Lists.{Listed, ReadBy, RefusedBy, RulesFit, RulesFrom}
use Rattle.reader.specs.declared.cursor.Cursor.{Cursor}
use Rattle.reader.proofs.Rising.{least_after, rises-from}
use Rattle.reader.proofs.Runs.{none_read, all_read, one-read, next-refused, refused-read}

abbrev action_in : Rule → ℕ
action_in r = r.action

abbrev words_from : List (List ℕ) → List Word
words_from fs = (rule_from 0 (drop 2 fs)).words

-- checks 5 to 9 of a rule, of which the action is a number
formula-refusal : (t : List ℕ) (c : Cursor) → LineAt t c RuleKind → (p : Policy) (i r e : Bool)
    → let ws = words_from (fields_at t c) in
    in_range RuleKind p.form (sizes p) c.numbers ws ≡ i → rises RuleKind p c.numbers ≡ r → all (widths_equal (sizes p)) ws ≡ e
    → refusal_at p RuleKind (fields_at t c)
    ≡ first_broken (check 5 (not (are_words (drop 2 (fields_at t c)))) ∷ check 6 (not i) ∷ check 7 (not r) ∷ check 8 (not e) ∷ check 9 (not (balanced 0 ws)) ∷ [])
unfolding refusal_at first_broken form_fits numbers_fit words_of balances
formula-refusal t c l p i r e f g h = rw (l.form, ← l.numbers, f, g, h) refl

-- what is held between two lines; as each action rises, there are no more rules than actions below the least that rises
pub record RulesHeld (t : List ℕ) (form : ℕ) (shapes : Shapes) (c : Cursor) (x : Rules) (n : ℕ) (d : Cursor) : Type 0 where
  pub rules : List Rule
  pub stored : x ≡ rules_value rules
  pub least : n ≡ least_after action_in (last rules)
  pub few : x.count ≤ n
  pub lines : ReadBy t RuleKind (RulesFit form (both_in shapes)) (place_of RuleKind) c d rules

pub no_rules_held : (t : List ℕ) (form : ℕ) (shapes : Shapes) (c : Cursor) (x : Rules) → x ≡ rules_value [] → Stands t c → RulesHeld t form shapes c x 0 c
unfolding last rules_value
no_rules_held t form shapes c x e s =
    record {
      rules = [];
      stored = e;
      least = refl;
      few = omega (arith, ap (λ (y : Rules). y.count) e);
      lines = none_read t RuleKind (RulesFit form (both_in shapes)) c s;
    }

module _ {t : List ℕ} {form : ℕ} {shapes : Shapes} {c : Cursor} {x : Rules} {n : ℕ} {d : Cursor} (h : RulesHeld t form shapes c x n d) where
  pub rules-read : (r : Bool) → r ≡ ahead_is d.ahead RuleKind → r ≡ false → RulesFrom t form shapes c x d
  rules-read r e f =
      record { list = h.rules; rules = h.stored; lines = all_read t RuleKind (RulesFit form (both_in shapes)) h.lines (sym e ∙ f) }

  module _ (y : Result RuleValue Refusal) (e : y ≡ admitted_rule n form (both_in shapes) d.numbers.first (fields_at t d)) where
    abbrev action : ℕ
    action = d.numbers.first

    -- a rule that fits and rises finds a free place
    module _ (v : RuleValue) (g : y ≡ Ok v) where
      taken : RuleTaken n form action (fields_at t d) v
      taken = rule-taken n form (both_in shapes) action (fields_at t d) y e v g

      pub rule-room : x.count < rule_places
      rule-room = omega (arith, h.few, taken.rises, taken.action, actions-most form)

      pub rule-small : action < rule_places
      rule-small = omega (arith, taken.action, actions-most form)

    module _ (q : d.ahead ≡ Some RuleKind) where
      action-said : d.numbers ≡ one_number action
      unfolding numbers_of
      action-said = let l = h.lines.stands RuleKind q in l.numbers ∙ ap (λ (m : Numbers). one_number m.first) (sym l.numbers)

      rule-refusal : (z : Listed RuleKind Rule) (p : Policy) → RulesFit form (both_in shapes) z p
          → refusal_at (z.with h.rules p) RuleKind (fields_at t d) ≡ number_in y
      rule-refusal z p f =
          let v = z.with h.rules p in
          let u = f.kind.sizes h.rules p ∙ f.sizes in
          let m = f.kind.form h.rules p ∙ f.form in
          let ws = words_from (fields_at t d) in
          formula-refusal t d (h.lines.stands RuleKind q) v _ _ _
          (ap (λ (k : Numbers). in_range RuleKind v.form (sizes v) k ws) action-said
          ∙ ap (λ (k : ℕ). in_range RuleKind k (sizes v) (one_number action) ws) m
          ∙ ap (λ (k : Sizes). in_range RuleKind form k (one_number action) ws) u)
          (f.kind.rise v d.numbers
          ∙ ap (λ (rs : List Rule). given (last rs) true (λ r. ltb r.action action)) (z.got h.rules p)
          ∙ rises-from action_in (last h.rules) action
          ∙ ap (λ (k : ℕ). leb k action) (sym h.least))
          (ap (λ (k : Sizes). all (widths_equal k) ws) u)
          ∙ sym (rule-first-broken n form (both_in shapes) action (fields_at t d) y e)

      pub rule-out : (r : Refusal) → y ≡ Err r → RefusedBy t RuleKind (RulesFit form (both_in shapes)) c (record { refusal = r; line = d.line })
      rule-out r g = refused-read t RuleKind (RulesFit form (both_in shapes)) h.lines q r (λ z p f v. rule-refusal z p f ∙ ap number_in g)

      module _ (v : RuleValue) (g : y ≡ Ok v) where
        abbrev here : Rule
        here = rule_from action (drop 2 (fields_at t d))

        rule-said : (z : Listed RuleKind Rule) (p : Policy) → RulesFit form (both_in shapes) z p → z.items p ≡ []
            → (refusal_at (z.with h.rules p) RuleKind (fields_at t d) ≡ None)
            × (z.said (numbers_of (layout_of RuleKind) (fields_at t d)) (words_of (layout_of RuleKind) (fields_at t d)) ≡ here)
        unfolding words_of
        rule-said z p f u = (rule-refusal z p f ∙ ap number_in g, f.kind.said _ _ ∙ rw (← (h.lines.stands RuleKind q).numbers) refl)

        pub rule-next : (r : Rejection)
            → ((p : Policy) → read_lines (record { before = Some RuleKind; policy = p }) (d.line + 1) (lines (drop (d.end + 1) t)) ≡ refused_as r)
            → RefusedBy t RuleKind (RulesFit form (both_in shapes)) c r
        rule-next r i = next-refused t RuleKind (RulesFit form (both_in shapes)) h.lines q here rule-said r i

        pub rule-more : (b : Cursor) → NextOf t d RuleKind b → RulesHeld t form shapes c (more_rule v x) (action + 1) b
        unfolding rules_value
        rule-more b i =
            let s = (taken v g).value in
            let j : length h.rules < rule_places = omega (arith, rule-room v g, ap (λ (z : Rules). z.count) h.stored) in
            record {
              rules = h.rules ++ (here ∷ []);
              stored = rw (s, h.stored) (sym (more-rule here h.rules j));
              least = rw (last_snoc h.rules here) (add-one action);
              few = omega (arith, h.few, (taken v g).rises);
              lines = one-read t RuleKind (RulesFit form (both_in shapes)) h.lines q here rule-said b i;
            }
