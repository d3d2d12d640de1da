-- Check 11 by its parts: a side by its widths and lines, the rules by each rule and what is behind the last, and the
-- value by its sides and lists.
use Rattle.std.specs.Prelude.{None}
use Prim.Native.Nat.{ℕ, ◌≤◌, ◌<◌}
use mathlib.Core.Path.{◌≡◌, refl, sym, ap, ◌∙◌}
use mathlib.Core.Bool.{Bool, true, false, ◌&&◌, and-false}
use mathlib.Core.List.{map, map-map}
use native.Mathlib.Omega.{arith}
use borrow.Author.Tests.{eq-eqb, ne_eqb, le-leb, leb-true, leb-false}
use lib.Dec.{eqb, leb, ltb}
use lib.ListN.{length, take, drop, length-map, length-take}
use lib.Seq.{length-take-le}
use Rattle.basis.specs.Lists.{all, sum}
use Rattle.basis.proofs.Padded.{same-padded, same_map}
use Rattle.seniority.specs.Seniority.{direct}
use Rattle.policy.specs.Limits.{is_form, values, actions, user_numbers, object_numbers, most_conflicts, most_words}
use Rattle.policy.specs.Policy.{total}
use Rattle.policy.specs.Checks.{SideSizes, Sizes, side_sizes, sizes, conflict_fits, word_fits, widths_equal, balanced}
use Rattle.policy.specs.Value.{width_places, line_places, word_places, words_in, rule_places, no_rule, register, side_of, side_value, entries_of, conflicts_of, conflicts_value, rule_of, rule_value, rules_of, rules_value, policy_of, value_of}
use Rattle.policy.specs.Valid.{same_line, same_side, same_register, same_conflicts, same_rule, same_rules, same_value, valid}
use Rattle.policy.specs.Inner.Sound.{widths_sound, rising, line_in, line_above, number_in, number_above, set_above, rule_sound, action_above, side_sound, lists_sound, sound}
use Rattle.policy.specs.declared.value.SideValue.{SideValue}
use Rattle.policy.specs.declared.value.RuleValue.{RuleValue}
use Rattle.policy.specs.declared.value.Rules.{Rules}
use Rattle.policy.specs.declared.value.PolicyValue.{PolicyValue}
use Rattle.policy.proofs.Valid.{valid-sound}
use Rattle.checks.specs.Inner.{sizes_in, both_in}
use Rattle.checks.specs.declared.shape.Shape.{Shape}
use Rattle.checks.specs.declared.shape.Shapes.{Shapes}
use Rattle.validity.specs.Inner.{holds, widths_valid, lines_valid, side_valid, register_valid, conflicts_valid, rule_valid, rules_valid, pairs_valid, lists_valid}
use Rattle.validity.proofs.Rising.{rising-map, rising-all}
use Rattle.validity.proofs.Stored.{lines-are}

-- ---- a side

side-order : (a b c d l w s : Bool) → ((a && (b && (c && d))) && (l && (w && s))) ≡ (((a && b) && (l && w)) && ((c && d) && s))
side-order false b c d l w s = refl
side-order true false c d l w s = refl
side-order true true c d false w s = and-false (c && d)
side-order true true c d true false s = and-false (c && d)
side-order true true c d true true s = refl

pub side-parts : (most : ℕ) (x : SideValue)
    → side_valid most x ≡ (widths_valid most x.widths x.attributes && lines_valid (side_sizes (side_of x)) x.seniority x.lines)
unfolding side_valid same_side side_value side_of side_sound widths_valid lines_valid holds
side-parts most x =
    side-order
    (eqb (length (take x.attributes x.widths)) x.attributes) _
    (eqb (length (take x.lines x.seniority)) x.lines) _
    (leb 1 (length (take x.attributes x.widths)))
    (widths_sound most 0 (take x.attributes x.widths))
    _

-- a shape with the widths of a side has its sizes
pub shape-is : (s : Shape) (x : SideValue) → length x.widths ≡ width_places → s.attributes ≡ x.attributes → s.widths ≡ x.widths
    → s.total ≡ sum (take x.attributes x.widths) → sizes_in s ≡ side_sizes (side_of x)
unfolding side_of total
shape-is s x k e w t =
    let p : length (take s.attributes s.widths) ≡ s.attributes = length-take-le s.attributes s.widths (omega (arith, s.placed, ap length w)) in
    rw (t, ← e, ← w, p)

module _ (most : ℕ) (x : SideValue) where
  pub side-out : widths_valid most x.widths x.attributes ≡ false → side_valid most x ≡ false
  side-out e = rw (side-parts most x, e)

  -- where its widths are valid, the answer is that of its lines
  pub side-lines : length x.seniority ≡ line_places → widths_valid most x.widths x.attributes ≡ true → {s : SideSizes} → s ≡ side_sizes (side_of x)
      → {r : Bool}
      → r ≡ (leb x.lines (length x.seniority) && (all (same_line (direct 0 0)) (drop x.lines x.seniority) && rising (line_in s) line_above None (take x.lines x.seniority)))
      → side_valid most x ≡ r
  side-lines k e {s} z q = rw (side-parts most x, e, ← z, lines-are s x.seniority x.lines k) (sym q)

-- ---- a rule

pub rule-is : (n : ℕ) (s : Sizes) (x : RuleValue) → x.count ≤ word_places
    → rule_sound n s (rule_of x)
    ≡ (ltb x.action n
    && (all (word_fits s) (words_in x.count x.words)
    && (all (widths_equal s) (words_in x.count x.words) && balanced 0 (words_in x.count x.words))))
unfolding rule_sound rule_of
rule-is n s x h = rw (le-leb (length (words_in x.count x.words)) most_words (rw length-map (omega (arith, length-take x.count x.words))))

-- ---- the rules

rules-order : (a b r : Bool) → ((a && b) && r) ≡ (b && (a && r))
rules-order true b r = refl
rules-order false b r = sym (and-false b)

module _ (n : ℕ) (s : Sizes) (x : Rules) (k : length x.entries ≡ rule_places) where
  rules-out : rule_places < x.count → rules_valid n s x ≡ false
  unfolding rules_valid same_rules rules_value rules_of
  rules-out h = rw (length-map, ne_eqb (length (take x.count x.entries)) x.count (λ q. omega (arith, length-take x.count x.entries)))

  rules-stored : x.count ≤ rule_places
      → same_rules (rules_value (rules_of x)) x
      ≡ (all (λ y. same_rule (rule_value (rule_of y)) y) (take x.count x.entries) && all (same_rule no_rule) (drop x.count x.entries))
  unfolding same_rules rules_value rules_of
  rules-stored h =
      let zs = take x.count x.entries in
      let l : length zs ≡ x.count = length-take-le x.count x.entries (omega arith) in
      let m : length (map (λ y. rule_value (rule_of y)) zs) ≡ x.count = length-map zs (λ y. rule_value (rule_of y)) ∙ l in
      rw (
        length-map,
        eq-eqb (length zs) x.count l,
        map-map,
        ← k,
        same-padded same_rule no_rule (map (λ y. rule_value (rule_of y)) zs) x.entries (omega arith),
        m,
        same_map,
      )

  rules-in : x.count ≤ rule_places
      → rules_valid n s x ≡ (all (same_rule no_rule) (drop x.count x.entries) && rising (rule_valid n s) (λ (b y : RuleValue). ltb b.action y.action) None (take x.count x.entries))
  unfolding rules_valid rules_of rule_of rule_valid
  rules-in h =
      let zs = take x.count x.entries in
      rw (
        rules-stored h,
        rules-order (all (λ y. same_rule (rule_value (rule_of y)) y) zs),
        rising-map (rule_sound n s) action_above rule_of None,
        rising-all,
      )

  pub rules-are
      : rules_valid n s x
      ≡ (leb x.count (length x.entries)
      && (all (same_rule no_rule) (drop x.count x.entries) && rising (rule_valid n s) (λ (b y : RuleValue). ltb b.action y.action) None (take x.count x.entries)))
  rules-are = rw k (go (leb x.count rule_places) refl)
    where
      go : (b : Bool) → leb x.count rule_places ≡ b
          → rules_valid n s x
          ≡ (b && (all (same_rule no_rule) (drop x.count x.entries) && rising (rule_valid n s) (λ (b y : RuleValue). ltb b.action y.action) None (take x.count x.entries)))
      go true q = rules-in (leb-true x.count rule_places q)
      go false q = rules-out (leb-false x.count rule_places q)

-- ---- the value

-- the sizes of both sides
pub both-are : (v : PolicyValue) (s : Shapes) → sizes_in s.user ≡ side_sizes (side_of v.user) → sizes_in s.object ≡ side_sizes (side_of v.object)
    → both_in s ≡ sizes (policy_of v)
unfolding policy_of
both-are v s x y =
    ap (λ (z : SideSizes). record { user = z; object = sizes_in s.object }) x ∙ ap (λ (z : SideSizes). record { user = side_sizes (side_of v.user); object = z }) y

value-order : (su so ru ro rc rr rp f lu lo ku ko eu eo ec er ep : Bool)
    → ((su && (so && (ru && (ro && (rc && (rr && rp)))))) && (f && (lu && (lo && (ku && (ko && (eu && (eo && (ec && (er && ep))))))))))
    ≡ (f && ((su && (lu && ku)) && ((so && (lo && ko)) && ((ru && eu) && ((ro && eo) && ((rc && ec) && ((rr && er) && (rp && ep))))))))
value-order false so ru ro rc rr rp f lu lo ku ko eu eo ec er ep = simp and-false
value-order true false ru ro rc rr rp f lu lo ku ko eu eo ec er ep = simp and-false
value-order true true false ro rc rr rp f lu lo ku ko eu eo ec er ep = simp and-false
value-order true true true false rc rr rp f lu lo ku ko eu eo ec er ep = simp and-false
value-order true true true true false rr rp f lu lo ku ko eu eo ec er ep = simp and-false
value-order true true true true true false rp f lu lo ku ko eu eo ec er ep = simp and-false
value-order true true true true true true false f lu lo ku ko eu eo ec er ep = simp and-false
value-order true true true true true true true f false lo ku ko eu eo ec er ep = refl
value-order true true true true true true true f true false ku ko eu eo ec er ep = simp and-false
value-order true true true true true true true f true true ku ko eu eo ec er ep = refl

pub valid-parts : (v : PolicyValue)
    → valid v
    ≡ (is_form v.form
    && (side_valid (values v.form) v.user
    && (side_valid (values v.form) v.object && lists_valid v.form (sizes (policy_of v)) v.users v.objects v.conflicts v.rules v.pairs)))
unfolding same_value value_of policy_of sound lists_sound side_valid register_valid conflicts_valid rules_valid pairs_valid lists_valid
valid-parts v =
    valid-sound v
    ∙ (rw (eq-eqb v.form v.form refl)
    (value-order
    (same_side (side_value (side_of v.user)) v.user)
    (same_side (side_value (side_of v.object)) v.object)
    (same_register (register (entries_of v.users)) v.users)
    (same_register (register (entries_of v.objects)) v.objects)
    (same_conflicts (conflicts_value (conflicts_of v.conflicts)) v.conflicts)
    (same_rules (rules_value (rules_of v.rules)) v.rules)
    _
    (is_form v.form)
    (leb 1 (length (side_of v.user).widths))
    (leb 1 (length (side_of v.object).widths))
    (side_sound (values v.form) (side_of v.user))
    (side_sound (values v.form) (side_of v.object))
    (rising (number_in user_numbers (total (side_of v.user))) number_above None (entries_of v.users))
    (rising (number_in object_numbers (total (side_of v.object))) number_above None (entries_of v.objects))
    (leb (length (conflicts_of v.conflicts)) most_conflicts && rising (conflict_fits (total (side_of v.user))) set_above None (conflicts_of v.conflicts))
    (rising (rule_sound (actions v.form) (sizes (policy_of v))) action_above None (rules_of v.rules))
    _))
