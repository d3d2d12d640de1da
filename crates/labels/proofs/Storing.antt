-- Compiling: the labels that the code works out are those of the policy's sets, and what the parts leave in the buffers
-- is what compiling is to leave there.
use Rattle.std.specs.Prelude.{Ok, Err}
use Prim.Native.Nat.{ℕ, ◌+◌, ◌*◌, ◌/◌, ◌%◌, ◌^◌, ◌≤◌, ◌<◌}
use mathlib.Core.Path.{◌≡◌, refl, sym, ap, ◌∙◌}
use mathlib.Core.Bool.{Bool, true, false, ◌||◌, and-false}
use mathlib.Core.List.{List}
use native.Mathlib.Nat.{le_trans, lt_of_lt_of_le}
use native.Mathlib.Omega.{arith}
use lib.Dec.{eqb, ltb}
use lib.ListN.{length, get_or}
use lib.Pow.{pow_mono}
use borrow.Author.Tests.{eqb-true, ltb-false}
use Rattle.basis.specs.Choice.{first_broken}
use Rattle.basis.specs.Lists.{over}
use Rattle.basis.specs.Numbers.{up_to}
use Rattle.basis.proofs.Bools.{or_neither, and_left, and_right}
use Rattle.policy.specs.Limits.{values, actions, stored_widths, own_widths, most_sets}
use Rattle.policy.specs.Policy.{Side, Policy, sets}
use Rattle.policy.specs.Value.{policy_of}
use Rattle.policy.specs.Valid.{valid}
use Rattle.policy.specs.Answers.{answer_of}
use Rattle.policy.specs.declared.limits.Widths.{Widths}
use Rattle.policy.specs.declared.value.PolicyValue.{PolicyValue}
use Rattle.policy.specs.declared.refusal.Refusal.TheVariants.{InvalidState, BufferTooShort}
use Rattle.sets.proofs.Laws.{set_of-lt}
use Rattle.policy.proofs.Bounds.{total-most}
use Rattle.policy.proofs.Forms.{actions-stored, values-stored}
use Rattle.policy.proofs.Parts.{SideParts, parts}
use Rattle.policy.proofs.Valid.{valid-whole}
use Rattle.formula.specs.Truth.{Sets, at, grants}
use Rattle.labels.specs.Compile.{entry_of}
use Rattle.labels.specs.Compile.{like_users, like_objects, NU, NO, entry, user_label, object_label, user_result, object_result, table_result, Buffers, lent, counts, used, fits_widths, too_short, compile, compile_buffers, Compiles}
use Rattle.labels.specs.Labelling.{users_alike}
use Rattle.labels.specs.Rows.{rows_alike}
use Rattle.labels.specs.Inner.Grid.{cell, turned_view, like_still, ViewOf, Kept, Labelled, Puts}
use Rattle.labels.specs.Inner.Labels.{LabelsOf}
use Rattle.labels.specs.Inner.Rows.{entry_in}
use Rattle.labels.specs.declared.grid.View.{View}
use Rattle.labels.specs.declared.Counts.{Counts}
use Rattle.formula.specs.Inner.Lane.{AttributesOf, beside}
use Rattle.formula.specs.declared.attributes.Attributes.{Attributes}
use Rattle.labels.specs.declared.classify.Classes.{Classes}
use Rattle.labels.proofs.Alike.{rows_alike_lem, columns_alike}
use Rattle.labels.proofs.Refining.{alike_same, joined-alike, leaders_enough}
use Rattle.labels.proofs.Turn.{labelled-same, labelled-few}
use Rattle.labels.proofs.Compiling.{length-user_result, length-object_result, length-table_result}

-- ---- the labels

-- where the grid holds all entries
module _ {p : Policy} (grid : List ℕ) {view : View} (K : Kept p grid view) (v : ViewOf p view) (before : List ℕ) {labels leaders : List ℕ} {count : ℕ}
    (none : (u : ℕ) → get_or before u 0 ≡ 0) where
  pub users-at-once : Labelled (like_still before grid view) view.rows labels leaders count → Labelled (like_users p) (sets p.user) labels leaders count
  unfolding like_users entry_of
  users-at-once s =
      rw (← v.users, ← v.objects)
      (labelled-same (λ u w hu hw.
      joined-alike before none (cell grid view) view.columns view.rows u w (omega arith) hu hw
      ∙ rows_alike_lem (cell grid view) (grants p) (actions p.form) view.rows view.columns K u w hu hw) s)

  pub objects-at-once : Labelled (like_still before grid (turned_view view)) view.columns labels leaders count
      → Labelled (like_objects p) (sets p.object) labels leaders count
  unfolding like_objects entry_of
  objects-at-once s =
      rw (← v.users, ← v.objects)
      (labelled-same (λ o q ho hq.
      joined-alike before none (cell grid (turned_view view)) view.rows view.columns o q (omega arith) ho hq
      ∙ columns_alike (cell grid (turned_view view)) (grants p) (actions p.form) view.rows view.columns (λ x u hx hu.
      let e : x * view.along + u * view.down ≡ u * view.down + x * view.along = omega arith in
      ap (λ (y : ℕ). get_or grid y 0) e ∙ K u x hu hx) o q ho hq) s)

-- the sets that are looked at may be the first k of a longer list
pub first-chosen : (p : Policy) (user : Bool) (xs ys : List ℕ) (k : ℕ) → length ys ≡ k → ((i : ℕ) → i < k → get_or ys i 0 ≡ get_or xs i 0)
    → {m count : ℕ} {labels leaders : List ℕ} → Labelled (rows_alike (entry_in p user ys) (length ys)) m labels leaders count
    → Labelled (rows_alike (entry_in p user xs) k) m labels leaders count
first-chosen p user xs ys k size first s =
    let same : (u o : ℕ) → o < k → entry_in p user ys u o ≡ entry_in p user xs u o = λ u o h.
    ap (λ (x : ℕ). entry_of p (beside user x u)) (first o h) in
    labelled-same (λ u w hu hw. alike_same _ _ k u w (same u) (same w)) (rw size at s)

-- by strips: user sets by all object sets, object sets by the lowest user set of each label
module _ {p : Policy} {view : View} (v : ViewOf p view) where
  entries-tell : (u w : ℕ) → u < view.rows → w < view.rows
      → rows_alike (λ u o. entry_of p (at u o)) view.columns u w ≡ users_alike (grants p) (actions p.form) view.columns u w
  unfolding entry_of
  entries-tell = rows_alike_lem (λ u o. entry_of p (at u o)) (grants p) (actions p.form) view.rows view.columns (λ u o hu ho. refl)

  pub users-by_strips : {labels leaders : List ℕ} {count : ℕ} (every : List ℕ) → ((i : ℕ) → i < view.columns → get_or every i 0 ≡ i)
      → Labelled (rows_alike (entry_in p false every) view.columns) view.rows labels leaders count
      → Labelled (like_users p) (sets p.user) labels leaders count
  unfolding like_users
  users-by_strips every all s =
      rw (← v.users, ← v.objects)
      (labelled-same (λ u w hu hw.
      alike_same _ _ view.columns u w (λ o h. ap (λ (x : ℕ). entry_of p (at u x)) (all o h)) (λ o h. ap (λ (x : ℕ). entry_of p (at w x)) (all o h))
      ∙ entries-tell u w hu hw) s)

  pub objects-by_strips : {labels leaders ls fs : List ℕ} {count n : ℕ} → Labelled (like_users p) (sets p.user) labels leaders count
      → Labelled (rows_alike (entry_in p true leaders) count) view.columns ls fs n → Labelled (like_objects p) (sets p.object) ls fs n
  unfolding like_users like_objects entry_of
  objects-by_strips U s =
      let rows = labelled-same (λ u w hu hw. sym (entries-tell u w hu hw)) (rw (← v.users, ← v.objects) at U) in
      rw (← v.users, ← v.objects)
      (labelled-same (λ o q ho hq.
      leaders_enough (λ u x. entry_of p (at u x)) view.rows view.columns rows o q ho hq
      ∙ columns_alike (λ x u. entry_of p (at u x)) (grants p) (actions p.form) view.rows view.columns (λ x u hx hu. refl) o q ho hq) s)

module _ {p : Policy} {users objects : Classes} (L : LabelsOf p users objects) where
  -- how many there are
  pub counts-are : (users.count ≡ NU p) × (objects.count ≡ NO p)
  unfolding NU NO
  counts-are = (L.users.counted, L.objects.counted)

  -- and that they are few
  module _ {view : View} (v : ViewOf p view) where
    pub users-few : users.count ≤ most_sets
    users-few = omega (arith, labelled-few L.users, v.users, v.few-users)

    pub objects-few : objects.count ≤ most_sets
    objects-few = omega (arith, labelled-few L.objects, v.objects, v.few-objects)

  -- the same by the values of each side, where no view is taken
  module _ {a : Attributes} (x : AttributesOf p a) where
    pub users-limited : users.count ≤ most_sets
    users-limited = le_trans (labelled-few L.users) (pow_mono x.user.most)

    pub objects-limited : objects.count ≤ most_sets
    objects-limited = le_trans (labelled-few L.objects) (pow_mono x.object.most)

-- ---- the widths

-- an entry has a bit for each action
pub entry-narrow : (p : Policy) (s : Sets) (width : ℕ) → actions p.form ≤ width → entry_of p s < 2 ^ width
unfolding entry_of
entry-narrow p s width h = lt_of_lt_of_le (set_of-lt _ (actions p.form)) (pow_mono h)

-- and so fits the width that a form stores it in
pub actions-few : (form : ℕ) (w : Widths) → own_widths form w ≡ true → actions form ≤ w.entry
unfolding own_widths
actions-few form w own =
    rw (eqb-true w.entry (stored_widths form).entry (and_right (eqb w.label (stored_widths form).label) _ own)) (actions-stored form)

-- and a side has at most as many sets as the width of a label has numbers
pub sets-few : (v : PolicyValue) → valid v ≡ true → (w : Widths) → own_widths v.form w ≡ true
    → (sets (policy_of v).user ≤ 2 ^ w.label) × (sets (policy_of v).object ≤ 2 ^ w.label)
unfolding own_widths policy_of
sets-few v ok w own =
    let e = eqb-true w.label (stored_widths v.form).label (and_left _ _ own) in
    let h = parts (policy_of v) (valid-whole v ok).lists in
    let few : (s : Side) → SideParts (values v.form) s → sets s ≤ 2 ^ w.label = λ s q.
    rw e (pow_mono (le_trans (total-most (values v.form) s q) (values-stored v.form))) in
    (few _ h.user, few _ h.object)

-- ---- the buffers

abbrev short : List ℕ → List ℕ → Bool
short buffer result = ltb (length buffer) (length result)

module _ (p : Policy) (b : Buffers) where
  pub too_short-by_length : too_short p b ≡ (ltb (length b.users) (sets p.user) || (ltb (length b.objects) (sets p.object) || ltb (length b.table) (NU p * NO p)))
  too_short-by_length = rw (length-user_result p, length-object_result p, length-table_result p) refl

  pub none-short : too_short p b ≡ false
      → (sets p.user ≤ length b.users) × (sets p.object ≤ length b.objects) × (NU p * NO p ≤ length b.table)
  none-short e =
      let x = or_neither (short b.users (user_result p)) (short b.objects (object_result p) || short b.table (table_result p)) e in
      let y = or_neither (short b.objects (object_result p)) (short b.table (table_result p)) x.1 in (
        rw (length-user_result p) at (ltb-false (length b.users) (length (user_result p)) x.0),
        rw (length-object_result p) at (ltb-false (length b.objects) (length (object_result p)) y.0),
        rw (length-table_result p) at (ltb-false (length b.table) (length (table_result p)) y.1),
      )

-- a refusal changes nothing
module _ (v : PolicyValue) (w : Widths) (us os ts : List ℕ) where
  refused-11 : fits_widths v (lent w us os ts) ≡ false → Compiles v (lent w us os ts) (Err InvalidState) (lent w us os ts)
  unfolding compile compile_buffers first_broken
  refused-11 e = record { answer = rw e; buffers = rw e }

  pub refused-value : valid v ≡ false → Compiles v (lent w us os ts) (Err InvalidState) (lent w us os ts)
  refused-value e = refused-11 (rw e)

  -- whatever the value
  pub refused-widths : own_widths v.form w ≡ false → Compiles v (lent w us os ts) (Err InvalidState) (lent w us os ts)
  refused-widths e = refused-11 (rw (e, and-false))

module _ (v : PolicyValue) (w : Widths) (ok : valid v ≡ true) (own : own_widths v.form w ≡ true) (us os ts : List ℕ) where
  pub refused-short : too_short (policy_of v) (lent w us os ts) ≡ true → Compiles v (lent w us os ts) (Err BufferTooShort) (lent w us os ts)
  unfolding compile compile_buffers first_broken
  refused-short e = record { answer = rw (ok, own, e); buffers = rw (ok, own, e) }

  stored-long : (c : Counts) (us' os' ts' : List ℕ) → too_short (policy_of v) (lent w us os ts) ≡ false
      → c.users ≡ NU (policy_of v) → c.objects ≡ NO (policy_of v)
      → us' ≡ over (user_result (policy_of v)) us → os' ≡ over (object_result (policy_of v)) os → ts' ≡ over (table_result (policy_of v)) ts
      → Compiles v (lent w us os ts) (Ok c) (lent w us' os' ts')
  unfolding compile compile_buffers first_broken
  stored-long c us' os' ts' e a b qu qo qt = record { answer = rw (ok, own, e, ← a, ← b); buffers = rw (ok, own, e, qu, qo, qt) }

-- NU and NO alone
pub used-refused : (v : PolicyValue) → valid v ≡ false → answer_of {A = Counts} (Err InvalidState) ≡ used v
unfolding used first_broken
used-refused v e = rw e

pub used-stored : (v : PolicyValue) → valid v ≡ true → (c : Counts) → c ≡ counts (policy_of v) → answer_of (Ok c) ≡ used v
unfolding used first_broken
used-stored v e c q = rw (e, q)

-- ---- once both sides are labelled

module _ (v : PolicyValue) (w : Widths) (ok : valid v ≡ true) (own : own_widths v.form w ≡ true) (us os ts : List ℕ) {view : View} (W : ViewOf (policy_of v) view)
    {users objects : Classes} (L : LabelsOf (policy_of v) users objects) where
  -- the entry of two labels is that of their leaders
  leaders_entry : (ul ol : ℕ) → ul < users.count → ol < objects.count
      → entry_of (policy_of v) (at (get_or users.leaders ul 0) (get_or objects.leaders ol 0)) ≡ entry (policy_of v) ul ol
  unfolding entry
  leaders_entry ul ol hu ho = rw (L.users.leaders_are ul hu, L.objects.leaders_are ol ho)

  -- what three writers leave that put the labels and the table there
  pub stored-all : (n : Counts) → (n.users ≡ users.count) × (n.objects ≡ objects.count) → (us' os' ts' : List ℕ) → too_short (policy_of v) (lent w us os ts) ≡ false
      → Puts users.labels view.rows us us' → Puts objects.labels view.columns os os'
      → ((f : ℕ → ℕ → ℕ) → ((ul ol : ℕ) → ul < users.count → ol < objects.count → entry_of (policy_of v) (at (get_or users.leaders ul 0) (get_or objects.leaders ol 0)) ≡ f ul ol)
      → ts' ≡ over (up_to (λ i. f (i / objects.count) (i % objects.count)) (users.count * objects.count)) ts)
      → Compiles v (lent w us os ts) (Ok n) (lent w us' os' ts')
  unfolding user_result object_result table_result
  stored-all n q us' os' ts' e wu wo wt =
      let m = counts-are L in
      stored-long v w ok own us os ts n us' os' ts' e (q.0 ∙ m.0) (q.1 ∙ m.1)
      (wu (user_label (policy_of v)) (rw W.users L.users.labels_are) ∙ rw W.users)
      (wo (object_label (policy_of v)) (rw W.objects L.objects.labels_are) ∙ rw W.objects)
      (wt (entry (policy_of v)) leaders_entry ∙ rw (m.0, m.1))
