-- A line that passes checks 6 to 9, 21 and 22 keeps the lists sound, where no line of a later kind was read.
use Rattle.std.specs.Prelude.{None}
use Prim.Native.Nat.{ℕ, suc, ◌≤◌}
use mathlib.Core.Path.{◌≡◌, refl}
use mathlib.Core.Bool.{true}
use mathlib.Core.List.{List, [], ◌∷◌, ◌++◌}
use native.Mathlib.Omega.{arith}
use lib.Dec.{ltb}
use lib.ListN.{length}
use borrow.Author.Tests.{le-leb, ltb-true}
use Rattle.basis.specs.Lists.{all}
use Rattle.basis.proofs.Bools.{and_left, and_right}
use Rattle.basis.proofs.Snoc.{length-snoc}
use Rattle.seniority.specs.Seniority.{direct}
use Rattle.text.specs.Kind.{layout_of, place_of}
use Rattle.text.specs.declared.kind.Kind.{Kind}
use Rattle.text.specs.declared.kind.Kind.TheVariants.{Policy as PolicyKind, Uattr, Oattr, Usen, Osen, User, Object, Conflict as ConflictKind, Rule as RuleKind, Pair as PairKind, End}
use Rattle.text.specs.declared.number.Numbers.{Numbers}
use Rattle.words.specs.declared.Word.{Word}
use Rattle.policy.specs.Limits.{values, actions, user_numbers, object_numbers, most_words, most_conflicts, most_pairs}
use Rattle.policy.specs.Policy.{Side, Rule, Policy, total}
use Rattle.policy.specs.Checks.{side_sizes, sizes, width_fits, direct_fits, entry_fits, conflict_in, pair_in, in_range, direct_rises, entry_rises, conflict_rises, rule_rises, pair_rises, rises, conflict_room, pair_room, widths_equal, balances, with_width, with_line, with_entry, extended}
use Rattle.policy.specs.Inner.Sound.{widths_sound, rule_sound, rising, line_above, number_above, action_above, pair_higher, set_above}
use Rattle.policy.specs.declared.value.Entry.{Entry}
use Rattle.policy.proofs.Rising.{rising-more}
use Rattle.policy.proofs.Parts.{line_fits, number_fits, SideParts, Parts, conflict_within, rule_fits, pair_within}
use Rattle.policy.proofs.Bounds.{widths-more}
use Rattle.policy.proofs.Order.{cut}

-- ---- one list

module _ (most : ℕ) where
  pub more-widths : (ws : List ℕ) (w : ℕ) → let s : Side = record { widths = ws; lines = [] } in
      SideParts most s → width_fits most (total s) w ≡ true → SideParts most (with_width w s)
  unfolding rising total
  more-widths ws w h f = record { widths = widths-more most ws w h.widths f; lines = refl }

  pub more-lines : (s : Side) (v j : ℕ) → SideParts most s → direct_fits (side_sizes s) v j ≡ true → direct_rises s v j ≡ true → SideParts most (with_line v j s)
  unfolding direct_fits total direct_rises
  more-lines s v j h f a = record { widths = h.widths; lines = rising-more (line_fits s) line_above s.lines (direct v j) h.lines f a }

pub more-entries : (most : ℕ) (s : Side) (es : List Entry) (n x : ℕ) → rising (number_fits most s) number_above None es ≡ true
    → entry_fits most (total s) n x ≡ true → entry_rises es n ≡ true → rising (number_fits most s) number_above None (with_entry n x es) ≡ true
unfolding entry_rises
more-entries most s es n x h f a = rising-more (number_fits most s) number_above es (record { number = n; set = x }) h f a

-- ---- one line

-- checks 6 to 9, 21 and 22 of a line pass, and it has no more words than a formula may have
pub record Fits (k : Kind) (p : Policy) (n : Numbers) (ws : List Word) : Type 0 where
  pub range : in_range k p.form (sizes p) n ws ≡ true
  pub rise : rises k p n ≡ true
  pub conflict-room : conflict_room k p ≡ true
  pub pair-room : pair_room k p ≡ true
  pub equal : all (widths_equal (sizes p)) ws ≡ true
  pub balance : balances (layout_of k) ws ≡ true
  pub few : length ws ≤ most_words

-- a line with no words
pub plain_fits : (k : Kind) (p : Policy) (n : Numbers) → in_range k p.form (sizes p) n [] ≡ true → rises k p n ≡ true
    → conflict_room k p ≡ true → pair_room k p ≡ true → balances (layout_of k) [] ≡ true → Fits k p n []
unfolding all
plain_fits k p n f a c r b = record { range = f; rise = a; conflict-room = c; pair-room = r; equal = refl; balance = b; few = omega arith }

-- ---- rules: a rule's tests look at the form and the sides alone

more-rules : (p : Policy) (n : Numbers) (ws : List Word) → let r : Rule = record { action = n.first; words = ws } in
    rising (rule_fits p) action_above None p.rules ≡ true → Fits RuleKind p n ws → rising (rule_fits p) action_above None (p.rules ++ (r ∷ [])) ≡ true
unfolding rule_sound in_range rises rule_rises balances
more-rules p n ws h f =
    let a = n.first in
    let r : Rule = record { action = a; words = ws } in
    let c : rule_fits p r ≡ true = rw (le-leb (length ws) most_words f.few, and_left (ltb a (actions p.form)) _ f.range, and_right (ltb a (actions p.form)) _ f.range, f.equal, f.balance) in
    rising-more (rule_fits p) action_above p.rules r h c f.rise

-- ---- lists with a limit

-- where there is room, one element more is not too many
few-more : {A : Type 0} (most : ℕ) (xs : List A) (x : A) → ltb (length xs) most ≡ true → length (xs ++ (x ∷ [])) ≤ most
few-more most xs x e = rw (length-snoc xs x) (omega (arith, ltb-true (length xs) most e))

-- ---- conflicts: a conflict's test looks at the user side alone

module _ (p : Policy) (n : Numbers) (ws : List Word) (f : Fits ConflictKind p n ws) where
  more-conflicts : rising (conflict_within p.user) set_above None p.conflicts ≡ true
      → rising (conflict_within p.user) set_above None (p.conflicts ++ (conflict_in n ∷ [])) ≡ true
  unfolding in_range rises conflict_rises
  more-conflicts h = rising-more (conflict_within p.user) set_above p.conflicts (conflict_in n) h f.range f.rise

-- ---- pairs: a pair's test looks at the form and the sides alone

module _ (p : Policy) (n : Numbers) (ws : List Word) (f : Fits PairKind p n ws) where
  more-pairs : rising (pair_within p) pair_higher None p.pairs ≡ true → rising (pair_within p) pair_higher None (p.pairs ++ (pair_in n ∷ [])) ≡ true
  unfolding in_range rises pair_rises
  more-pairs h = rising-more (pair_within p) pair_higher p.pairs (pair_in n) h f.range f.rise

pub parts_more : (k : Kind) (n : Numbers) (ws : List Word) (p : Policy) → let q = cut (suc (place_of k)) p in
    Parts q → Fits k q n ws → Parts (extended k n ws q)
unfolding extended in_range rises cut rising widths_sound
parts_more PolicyKind n ws p t f =
    record { user = record { widths = refl; lines = refl }; object = record { widths = refl; lines = refl }; users = refl; objects = refl; few-conflicts = omega arith; conflicts = refl; rules = refl; few-pairs = omega arith; pairs = refl }
parts_more Uattr n ws p t f =
    record { user = more-widths (values p.form) p.user.widths n.first t.user f.range; object = t.object; users = refl; objects = refl; few-conflicts = omega arith; conflicts = refl; rules = refl; few-pairs = omega arith; pairs = refl }
parts_more Oattr n ws p t f =
    record { user = t.user; object = more-widths (values p.form) p.object.widths n.first t.object f.range; users = refl; objects = refl; few-conflicts = omega arith; conflicts = refl; rules = refl; few-pairs = omega arith; pairs = refl }
parts_more Usen n ws p t f =
    record { user = more-lines (values p.form) _ n.first n.second t.user f.range f.rise; object = t.object; users = refl; objects = refl; few-conflicts = omega arith; conflicts = refl; rules = refl; few-pairs = omega arith; pairs = refl }
parts_more Osen n ws p t f =
    record { user = t.user; object = more-lines (values p.form) _ n.first n.second t.object f.range f.rise; users = refl; objects = refl; few-conflicts = omega arith; conflicts = refl; rules = refl; few-pairs = omega arith; pairs = refl }
parts_more User n ws p t f =
    record { user = t.user; object = t.object; users = more-entries user_numbers _ p.users n.first n.second t.users f.range f.rise; objects = refl; few-conflicts = omega arith; conflicts = refl; rules = refl; few-pairs = omega arith; pairs = refl }
parts_more Object n ws p t f =
    record { user = t.user; object = t.object; users = t.users; objects = more-entries object_numbers _ p.objects n.first n.second t.objects f.range f.rise; few-conflicts = omega arith; conflicts = refl; rules = refl; few-pairs = omega arith; pairs = refl }
parts_more ConflictKind n ws p t f =
    let q = cut (suc (place_of ConflictKind)) p in
    record { user = t.user; object = t.object; users = t.users; objects = t.objects; few-conflicts = few-more most_conflicts q.conflicts (conflict_in n) f.conflict-room; conflicts = more-conflicts q n ws f t.conflicts; rules = refl; few-pairs = omega arith; pairs = refl }
parts_more RuleKind n ws p t f =
    record { user = t.user; object = t.object; users = t.users; objects = t.objects; few-conflicts = t.few-conflicts; conflicts = t.conflicts; rules = more-rules (cut (suc (place_of RuleKind)) p) n ws t.rules f; few-pairs = omega arith; pairs = refl }
parts_more PairKind n ws p t f =
    let q = cut (suc (place_of PairKind)) p in
    record { user = t.user; object = t.object; users = t.users; objects = t.objects; few-conflicts = t.few-conflicts; conflicts = t.conflicts; rules = t.rules; few-pairs = few-more most_pairs q.pairs (pair_in n) f.pair-room; pairs = more-pairs q n ws f t.pairs }
parts_more End n ws p t f = t
