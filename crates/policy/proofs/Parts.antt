-- The tests of a sound policy taken apart, list by list, and put together again.
use Rattle.std.specs.Prelude.{None}
use Prim.Native.Nat.{ℕ, ◌≤◌, ◌<◌}
use mathlib.Core.Path.{◌≡◌}
use mathlib.Core.Bool.{Bool, true, ◌&&◌}
use lib.Dec.{leb, ltb}
use lib.ListN.{length}
use borrow.Author.Tests.{leb-true, ltb-true, le-leb}
use Rattle.basis.specs.Lists.{all}
use Rattle.basis.proofs.Bools.{and_left, and_right}
use Rattle.seniority.specs.declared.Direct.{Direct}
use Rattle.policy.specs.Limits.{is_form, values, actions, user_numbers, object_numbers, most_words, most_conflicts, most_pairs}
use Rattle.policy.specs.Policy.{Side, Rule, Policy, total}
use Rattle.policy.specs.Checks.{side_sizes, sizes, conflict_fits, pair_fits, word_fits, widths_equal, balanced}
use Rattle.policy.specs.Inner.Sound.{widths_sound, rising, line_in, line_above, number_in, number_above, set_above, rule_sound, action_above, pair_higher, side_sound, lists_sound, sound}
use Rattle.policy.specs.declared.value.Entry.{Entry}
use Rattle.policy.specs.declared.value.Conflict.{Conflict}
use Rattle.policy.specs.declared.value.Pair.{Pair}

-- ---- the tests of a policy's lists

abbrev pub line_fits : Side → Direct → Bool
line_fits s = line_in (side_sizes s)

abbrev pub number_fits : ℕ → Side → Entry → Bool
number_fits most s = number_in most (total s)

abbrev pub conflict_within : Side → Conflict → Bool
conflict_within s = conflict_fits (total s)

abbrev pub rule_fits : Policy → Rule → Bool
rule_fits p = rule_sound (actions p.form) (sizes p)

abbrev pub pair_within : Policy → Pair → Bool
pair_within p = pair_fits (actions p.form) (total p.user) (total p.object)

-- ---- the parts of a sound side, rule and policy

pub record SideParts (most : ℕ) (s : Side) : Type 0 where
  pub widths : widths_sound most 0 s.widths ≡ true
  pub lines : rising (line_fits s) line_above None s.lines ≡ true

pub side-parts : (most : ℕ) (s : Side) → side_sound most s ≡ true → SideParts most s
unfolding side_sound
side-parts most s e = record { widths = and_left _ _ e; lines = and_right (widths_sound most 0 s.widths) _ e }

pub side-sound : (most : ℕ) (s : Side) → SideParts most s → side_sound most s ≡ true
unfolding side_sound
side-sound most s p = rw (p.widths, p.lines)

pub record RuleParts (p : Policy) (r : Rule) : Type 0 where
  pub few : length r.words ≤ most_words
  pub action : r.action < actions p.form
  pub fit : all (word_fits (sizes p)) r.words ≡ true
  pub equal : all (widths_equal (sizes p)) r.words ≡ true
  pub balance : balanced 0 r.words ≡ true

pub rule-parts : (p : Policy) (r : Rule) → rule_fits p r ≡ true → RuleParts p r
unfolding rule_sound
rule-parts p r e =
    let e₁ = and_right (leb (length r.words) most_words) _ e in
    let e₂ = and_right (ltb r.action (actions p.form)) _ e₁ in
    let e₃ = and_right (all (word_fits (sizes p)) r.words) _ e₂ in
    record {
      few = leb-true _ _ (and_left (leb (length r.words) most_words) _ e);
      action = ltb-true _ _ (and_left (ltb r.action (actions p.form)) _ e₁);
      fit = and_left _ _ e₂;
      equal = and_left _ _ e₃;
      balance = and_right (all (widths_equal (sizes p)) r.words) _ e₃;
    }

pub record Parts (p : Policy) : Type 0 where
  pub user : SideParts (values p.form) p.user
  pub object : SideParts (values p.form) p.object
  pub users : rising (number_fits user_numbers p.user) number_above None p.users ≡ true
  pub objects : rising (number_fits object_numbers p.object) number_above None p.objects ≡ true
  pub few-conflicts : length p.conflicts ≤ most_conflicts
  pub conflicts : rising (conflict_within p.user) set_above None p.conflicts ≡ true
  pub rules : rising (rule_fits p) action_above None p.rules ≡ true
  pub few-pairs : length p.pairs ≤ most_pairs
  pub pairs : rising (pair_within p) pair_higher None p.pairs ≡ true

pub parts : (p : Policy) → lists_sound p ≡ true → Parts p
unfolding lists_sound
parts p e =
    let e₁ = and_right (side_sound (values p.form) p.user) _ e in
    let e₂ = and_right (side_sound (values p.form) p.object) _ e₁ in
    let e₃ = and_right (rising (number_fits user_numbers p.user) number_above None p.users) _ e₂ in
    let e₄ = and_right (rising (number_fits object_numbers p.object) number_above None p.objects) _ e₃ in
    let c = leb (length p.conflicts) most_conflicts in
    let f = and_left (c && rising (conflict_within p.user) set_above None p.conflicts) _ e₄ in
    let e₅ = and_right (c && rising (conflict_within p.user) set_above None p.conflicts) _ e₄ in
    let e₆ = and_right (rising (rule_fits p) action_above None p.rules) _ e₅ in
    record {
      user = side-parts (values p.form) p.user (and_left _ _ e);
      object = side-parts (values p.form) p.object (and_left _ _ e₁);
      users = and_left _ _ e₂;
      objects = and_left _ _ e₃;
      few-conflicts = leb-true _ _ (and_left c _ f);
      conflicts = and_right c _ f;
      rules = and_left _ _ e₅;
      few-pairs = leb-true _ _ (and_left (leb (length p.pairs) most_pairs) _ e₆);
      pairs = and_right (leb (length p.pairs) most_pairs) _ e₆;
    }

pub lists-sound : (p : Policy) → Parts p → lists_sound p ≡ true
unfolding lists_sound
lists-sound p t =
    rw (
      side-sound (values p.form) p.user t.user,
      side-sound (values p.form) p.object t.object,
      t.users,
      t.objects,
      le-leb (length p.conflicts) most_conflicts t.few-conflicts,
      t.conflicts,
      t.rules,
      le-leb (length p.pairs) most_pairs t.few-pairs,
      t.pairs,
    )

-- and of the policy of an accepted text
pub record Whole (p : Policy) : Type 0 where
  pub form : is_form p.form ≡ true
  pub user : 1 ≤ length p.user.widths
  pub object : 1 ≤ length p.object.widths
  pub lists : lists_sound p ≡ true

pub whole : (p : Policy) → sound p ≡ true → Whole p
unfolding sound
whole p e =
    let e₁ = and_right (is_form p.form) _ e in
    let e₂ = and_right (leb 1 (length p.user.widths)) _ e₁ in
    record {
      form = and_left _ _ e;
      user = leb-true _ _ (and_left (leb 1 (length p.user.widths)) _ e₁);
      object = leb-true _ _ (and_left (leb 1 (length p.object.widths)) _ e₂);
      lists = and_right (leb 1 (length p.object.widths)) _ e₂;
    }

pub is-sound : (p : Policy) → Whole p → sound p ≡ true
unfolding sound
is-sound p w = rw (w.form, le-leb 1 (length p.user.widths) w.user, le-leb 1 (length p.object.widths) w.object, w.lists)
