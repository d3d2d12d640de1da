-- The lines of a sound policy are read back as the policy: list by list, from the end line to the first.
use Rattle.std.specs.Prelude.{Option, None, Some}
use Prim.Native.Nat.{ℕ, suc, ◌≤◌, ◌<◌}
use mathlib.Core.Path.{◌≡◌, refl}
use mathlib.Core.Bool.{true, false≢true}
use mathlib.Core.List.{List, [], ◌∷◌, ◌++◌, map}
use native.Mathlib.Omega.{arith}
use lib.Dec.{lit≤, lit<}
use lib.ListN.{length}
use borrow.Author.Tests.{lt-ltb}
use native.Mathlib.Nat.{le_refl}
use Rattle.basis.specs.Choice.{given}
use Rattle.basis.specs.Lists.{last, sum}
use Rattle.basis.proofs.Snoc.{sum-snoc}
use Rattle.basis.proofs.Bools.{and_left}
use Rattle.seniority.specs.declared.Direct.{Direct}
use Rattle.text.specs.Kind.{layout_of, place_of}
use Rattle.text.specs.declared.kind.Kind.{Kind}
use Rattle.text.specs.declared.kind.Kind.TheVariants.{Policy as PolicyKind, Uattr, Oattr, Usen, Osen, User, Object, Conflict as ConflictKind, Rule as RuleKind, Pair as PairKind, End}
use Rattle.text.specs.declared.kind.Layout.TheVariants.{One}
use Rattle.words.specs.declared.Word.{Word}
use Rattle.policy.specs.Limits.{is_form, values, actions, user_numbers, object_numbers, most_conflicts, most_pairs}
use Rattle.policy.specs.Policy.{Rule, Policy, blank, total}
use Rattle.policy.specs.Line.{Line, no_numbers, one_number, two_numbers, three_numbers, plain, rule_line}
use Rattle.policy.specs.Text.{lines_of}
use Rattle.policy.specs.Checks.{width_fits, direct_fits, in_range, direct_rises, entry_rises, conflict_rises, rule_rises, pair_rises, rises, balanced, balances, extended, with_user, with_object, with_users, with_objects, with_conflicts, with_rules, with_pairs, with_line_of}
use Rattle.policy.specs.Read.{start, ending, read_lines}
use Rattle.policy.specs.Inner.Sound.{widths_sound, line_above, number_above, action_above, pair_higher, set_above}
use Rattle.policy.specs.declared.value.Entry.{Entry}
use Rattle.policy.specs.declared.value.Conflict.{Conflict}
use Rattle.policy.specs.declared.value.Pair.{Pair}
use Rattle.policy.proofs.Forms.{form-few}
use Rattle.policy.proofs.Parts.{line_fits, number_fits, rule-parts, Parts, parts, Whole, conflict_within, rule_fits, pair_within}
use Rattle.policy.proofs.Bounds.{width-head, width-tail, rule-digits}
use Rattle.policy.proofs.Shorts.{no_short, one-short, width-short, action-short, direct-short, entry-short, conflict-short, pair-short}
use Rattle.policy.proofs.Order.{reached, May, order-allowed, cut}
use Rattle.policy.proofs.Growth.{Fits, plain_fits}
use Rattle.policy.proofs.Fields.{line-back, one-back, two_back, three_back}
use Rattle.policy.proofs.Groups.{groups, lines_from, lines-from}
use Rattle.policy.proofs.ReadBack.{state, Leads, Good, leads-line, kind-lines, rising-lines}

module _ (p : Policy) (t : Parts p) where
  -- the lines from a kind on are read back, after the lines of the kinds before it
  abbrev From : Kind → Type 0
  From k = (b : Option Kind) → May (reached b) (place_of k) → Leads (state b (cut (place_of k) p)) (lines_from k p) p

  -- ---- widths

  module _ (k : Kind) (o : layout_of k ≡ One) (put : List ℕ → Policy)
      (fits : (ws : List ℕ) (w : ℕ) → width_fits (values p.form) (sum ws) w ≡ true → Fits k (put ws) (one_number w) []) where
    abbrev Sums : List ℕ → List ℕ → Type 0
    Sums done rest = widths_sound (values p.form) (sum done) rest ≡ true

    width-good : (done : List ℕ) (w : ℕ) (rest : List ℕ) → Sums done (w ∷ rest) → Good (put done) (plain k (one_number w))
    unfolding widths_sound
    width-good done w rest e =
        record { back = one-back k o w (width-short p.form w (width-head (values p.form) (sum done) w rest e).small); fits = fits done w (and_left _ _ e) }

    width-next : (done : List ℕ) (w : ℕ) (rest : List ℕ) → Sums done (w ∷ rest) → Sums (done ++ (w ∷ [])) rest
    width-next done w rest e = rw (sum-snoc done w) (width-tail (values p.form) (sum done) w rest e)

    width-lines : place_of PolicyKind < place_of k → place_of k < place_of End → ((ws : List ℕ) (w : ℕ) → with_line_of (plain k (one_number w)) (put ws) ≡ put (ws ++ (w ∷ [])))
        → (ws : List ℕ) → 1 ≤ length ws → widths_sound (values p.form) 0 ws ≡ true → (more : List Line)
        → ((b : Option Kind) → May (reached b) (suc (place_of k)) → Leads (state b (put ws)) more p)
        → (b : Option Kind) → May (reached b) (place_of k) → Leads (state b (put [])) (map (λ w. plain k (one_number w)) ws ++ more) p
    unfolding sum
    width-lines h g grow ws l e more then b m =
        kind-lines k h g (λ w. plain k (one_number w)) (λ w. refl) put grow Sums width-good width-next ws more p then b m (λ z. omega arith) e

  oattr-lines : 1 ≤ length p.object.widths → From Usen → From Oattr
  unfolding lines_from groups cut extended in_range rises balances total
  oattr-lines l =
      width-lines Oattr refl (λ ws. with_object (record { widths = ws; lines = [] }) (cut (place_of Oattr) p))
      (λ ws w f. plain_fits Oattr _ _ f refl refl refl refl) (lit< tt) (lit< tt) (λ ws w. refl)
      p.object.widths l t.object.widths (lines_from Usen p)

  uattr-lines : 1 ≤ length p.user.widths → From Oattr → From Uattr
  unfolding lines_from groups cut extended in_range rises balances total
  uattr-lines l =
      width-lines Uattr refl (λ ws. with_user (record { widths = ws; lines = [] }) (cut (place_of Uattr) p))
      (λ ws w f. plain_fits Uattr _ _ f refl refl refl refl) (lit< tt) (lit< tt) (λ ws w. refl)
      p.user.widths l t.user.widths (lines_from Oattr p)

  -- ---- seniorities

  usen-lines : From Osen → From Usen
  unfolding lines_from groups cut extended in_range rises direct_fits total direct_rises balances
  usen-lines =
      rising-lines (length p.user.lines) Usen (lit≤ tt) (lit< tt) (λ (l : Direct). plain Usen (two_numbers l.senior l.junior)) (λ l. refl)
      (λ ls. with_user (record { widths = p.user.widths; lines = ls }) (cut (place_of Usen) p)) (λ ls l. refl) (line_fits p.user) line_above
      (λ ls l n f a. record { back = two_back Usen refl _ _ (direct-short p.form p.user t.user l f); fits = plain_fits Usen _ _ f a refl refl refl })
      p.user.lines t.user.lines (le_refl _) (lines_from Osen p) p

  osen-lines : From User → From Osen
  unfolding lines_from groups cut extended in_range rises direct_fits total direct_rises balances
  osen-lines =
      rising-lines (length p.object.lines) Osen (lit≤ tt) (lit< tt) (λ (l : Direct). plain Osen (two_numbers l.senior l.junior)) (λ l. refl)
      (λ ls. with_object (record { widths = p.object.widths; lines = ls }) (cut (place_of Osen) p)) (λ ls l. refl) (line_fits p.object) line_above
      (λ ls l n f a. record { back = two_back Osen refl _ _ (direct-short p.form p.object t.object l f); fits = plain_fits Osen _ _ f a refl refl refl })
      p.object.lines t.object.lines (le_refl _) (lines_from User p) p

  -- ---- users and objects

  user-lines : From Object → From User
  unfolding lines_from groups cut extended in_range rises entry_rises balances
  user-lines =
      rising-lines (length p.users) User (lit≤ tt) (lit< tt) (λ (e : Entry). plain User (two_numbers e.number e.set)) (λ e. refl)
      (λ es. with_users es (cut (place_of User) p)) (λ es e. refl) (number_fits user_numbers p.user) number_above
      (λ es e n f a. record { back = two_back User refl _ _ (entry-short p.form p.user t.user user_numbers (lit≤ tt) e f); fits = plain_fits User _ _ f a refl refl refl })
      p.users t.users (le_refl _) (lines_from Object p) p

  object-lines : From ConflictKind → From Object
  unfolding lines_from groups cut extended in_range rises entry_rises balances
  object-lines =
      rising-lines (length p.objects) Object (lit≤ tt) (lit< tt) (λ (e : Entry). plain Object (two_numbers e.number e.set)) (λ e. refl)
      (λ es. with_objects es (cut (place_of Object) p)) (λ es e. refl) (number_fits object_numbers p.object) number_above
      (λ es e n f a. record { back = two_back Object refl _ _ (entry-short p.form p.object t.object object_numbers (lit≤ tt) e f); fits = plain_fits Object _ _ f a refl refl refl })
      p.objects t.objects (le_refl _) (lines_from ConflictKind p) p

  -- ---- conflicts

  conflict-lines : From RuleKind → From ConflictKind
  unfolding lines_from groups cut extended in_range rises conflict_rises balances
  conflict-lines =
      rising-lines most_conflicts ConflictKind (lit≤ tt) (lit< tt) (λ (x : Conflict). plain ConflictKind (two_numbers x.set x.most)) (λ x. refl)
      (λ xs. with_conflicts xs (cut (place_of ConflictKind) p)) (λ xs x. refl) (conflict_within p.user) set_above
      (λ xs x n f a. record { back = two_back ConflictKind refl _ _ (conflict-short p.form p.user t.user x f); fits = plain_fits ConflictKind _ _ f a (lt-ltb (length xs) most_conflicts n) refl refl })
      p.conflicts t.conflicts t.few-conflicts (lines_from RuleKind p) p

  -- ---- rules

  some_words : (ws : List Word) → balanced 0 ws ≡ true → 1 ≤ length ws
  unfolding balanced
  some_words [] e = absurd (false≢true e)
  some_words (w ∷ ws) e = omega arith

  rule-good : (rs : List Rule) (r : Rule) → rule_fits p r ≡ true → given (last rs) true (λ b. action_above b r) ≡ true
      → Good (with_rules rs (cut (place_of RuleKind) p)) (rule_line r.action r.words)
  unfolding in_range rises rule_rises balances cut
  rule-good rs r f a =
      let q = rule-parts p r f in
      record {
        back =
            line-back (rule_line r.action r.words)
            (record {
              short = action-short p.form r.action q.action;
              places = refl;
              worded = (some_words r.words q.balance, q.few, rule-digits p t r q);
            });
        fits =
            record {
              range = rw (lt-ltb r.action (actions p.form) q.action) q.fit;
              rise = a;
              conflict-room = refl;
              pair-room = refl;
              equal = q.equal;
              balance = q.balance;
              few = q.few;
            };
      }

  rule-lines : From PairKind → From RuleKind
  unfolding lines_from groups cut extended
  rule-lines =
      rising-lines (length p.rules) RuleKind (lit≤ tt) (lit< tt) (λ (r : Rule). rule_line r.action r.words) (λ r. refl)
      (λ rs. with_rules rs (cut (place_of RuleKind) p)) (λ rs r. refl) (rule_fits p) action_above (λ rs r n. rule-good rs r) p.rules t.rules (le_refl _) (lines_from PairKind p) p

  -- ---- pairs

  pair-lines : From End → From PairKind
  unfolding lines_from groups cut extended in_range rises pair_rises balances
  pair-lines =
      rising-lines most_pairs PairKind (lit≤ tt) (lit< tt) (λ (x : Pair). plain PairKind (three_numbers x.action x.user x.object)) (λ x. refl)
      (λ xs. with_pairs xs p) (λ xs x. refl) (pair_within p) pair_higher
      (λ xs x n f a. record { back = three_back PairKind refl _ _ _ (pair-short p t x f); fits = plain_fits PairKind _ _ f a refl (lt-ltb (length xs) most_pairs n) refl })
      p.pairs t.pairs t.few-pairs (lines_from End p) p

  -- ---- the first line and the last

  end_line_lem : From End
  unfolding lines_from groups cut extended in_range rises balances read_lines ending
  end_line_lem b m =
      leads-line b (cut (place_of End) p) (plain End no_numbers) [] p (order-allowed b End m)
      (record { back = line-back (plain End no_numbers) (record { short = no_short; places = refl; worded = refl }); fits = plain_fits End _ _ refl refl refl refl refl }) (λ n. refl)

  first-line : is_form p.form ≡ true → From Uattr → Leads start (lines_from PolicyKind p) p
  unfolding lines_from groups blank cut extended in_range rises balances
  first-line f then =
      leads-line None blank (plain PolicyKind (one_number p.form)) (lines_from Uattr p) p (order-allowed None PolicyKind (record { low = omega arith; high = omega arith; first = λ h. refl }))
      (record {
        back = one-back PolicyKind refl p.form (one-short p.form (form-few p.form f));
        fits = plain_fits PolicyKind blank _ f refl refl refl refl;
      })
      (then (Some PolicyKind) (record { low = omega arith; high = omega arith; first = λ h. omega arith }))

pub leads-all : (p : Policy) → Whole p → Leads start (lines_of p) p
leads-all p w =
    let t = parts p w.lists in
    rw (lines-from p)
    (first-line p t w.form
    (uattr-lines p t w.user
    (oattr-lines p t w.object
    (usen-lines p t (osen-lines p t (user-lines p t (object-lines p t (conflict-lines p t (rule-lines p t (pair-lines p t (end_line_lem p t)))))))))))
