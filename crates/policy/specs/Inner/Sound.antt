-- Policies whose lines pass checks 6 to 9, 21 and 22 one after the other, by a test for each list. Reading yields
-- exactly these, and check 11 tests for them; nothing here is needed to say what reading or check 11 means.
use Rattle.std.specs.Prelude.{ℕ, ◌+◌, Bool, true, ◌&&◌, List, [], ◌∷◌, leb, ltb, length, Option, None, Some}
use Rattle.basis.specs.Choice.{given}
use Rattle.basis.specs.Lists.{all}
use Rattle.seniority.specs.declared.Direct.{Direct}
use Rattle.policy.specs.Limits.{is_form, values, actions, user_numbers, object_numbers, most_words, most_conflicts, most_pairs}
use Rattle.policy.specs.Policy.{Side, Rule, Policy, total}
use Rattle.policy.specs.Checks.{SideSizes, Sizes, side_sizes, sizes, width_fits, direct_fits, direct_above, entry_fits, conflict_fits, pair_fits, pair_above, word_fits, widths_equal, balanced}
use Rattle.policy.specs.declared.value.Entry.{Entry}
use Rattle.policy.specs.declared.value.Conflict.{Conflict}
use Rattle.policy.specs.declared.value.Pair.{Pair}

-- widths after others that sum to n
unfoldable pub widths_sound : ℕ → ℕ → List ℕ → Bool
widths_sound most n [] = true
widths_sound most n (w ∷ ws) = width_fits most n w && widths_sound most (n + w) ws

-- elements after another: each passes a test and stands above the one before it
unfoldable pub rising : {A : Type 0} → (A → Bool) → (A → A → Bool) → Option A → List A → Bool
rising fits above before [] = true
rising fits above before (x ∷ xs) = fits x && (given before true (λ b. above b x) && rising fits above (Some x) xs)

-- ---- the test of each list's elements, and their order

-- direct seniorities of a side
abbrev pub line_in : SideSizes → Direct → Bool
line_in s l = direct_fits s l.senior l.junior

abbrev pub line_above : Direct → Direct → Bool
line_above b l = direct_above l.senior l.junior b

-- users or objects of a side of n values
abbrev pub number_in : ℕ → ℕ → Entry → Bool
number_in most n e = entry_fits most n e.number e.set

abbrev pub number_above : Entry → Entry → Bool
number_above b e = ltb b.number e.number

-- conflicts
abbrev pub set_above : Conflict → Conflict → Bool
set_above b x = ltb b.set x.set

-- rules where there are n actions
unfoldable pub rule_sound : ℕ → Sizes → Rule → Bool
rule_sound n s r =
    leb (length r.words) most_words
    && (ltb r.action n && (all (word_fits s) r.words && (all (widths_equal s) r.words && balanced 0 r.words)))

abbrev pub action_above : Rule → Rule → Bool
action_above b r = ltb b.action r.action

-- pairs
abbrev pub pair_higher : Pair → Pair → Bool
pair_higher b x = pair_above x b

-- ---- the lists

unfoldable pub side_sound : ℕ → Side → Bool
side_sound most s = widths_sound most 0 s.widths && rising (line_in (side_sizes s)) line_above None s.lines

-- every list is sound: what holds while a text is read, from the first line on
unfoldable pub lists_sound : Policy → Bool
lists_sound p =
    side_sound (values p.form) p.user
    && (side_sound (values p.form) p.object
    && (rising (number_in user_numbers (total p.user)) number_above None p.users
    && (rising (number_in object_numbers (total p.object)) number_above None p.objects
    && ((leb (length p.conflicts) most_conflicts && rising (conflict_fits (total p.user)) set_above None p.conflicts)
    && (rising (rule_sound (actions p.form) (sizes p)) action_above None p.rules
    && (leb (length p.pairs) most_pairs && rising (pair_fits (actions p.form) (total p.user) (total p.object)) pair_higher None p.pairs))))))

-- and the form and both sides are there: what holds of an accepted text's policy
unfoldable pub sound : Policy → Bool
sound p =
    is_form p.form && (leb 1 (length p.user.widths) && (leb 1 (length p.object.widths) && lists_sound p))
