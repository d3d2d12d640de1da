-- One turn of the labelling: the label whose leader a row is like says the row's own, and a row that is like none
-- leads.
use Prim.Native.Nat.{ℕ, ◌+◌, ◌^◌, ◌≤◌, ◌<◌, zero-le}
use mathlib.Core.Path.{◌≡◌, refl, sym, ap, subst, ◌∙◌}
use mathlib.Core.Bool.{Bool, true, false}
use mathlib.Core.List.{List}
use native.Mathlib.Nat.{le_trans, lt_of_lt_of_le}
use native.Mathlib.Numerals.{add-one}
use native.Mathlib.Omega.{arith}
use lib.ListN.{length, get_or, set, length-set}
use borrow.Author.Count.{below_none}
use Rattle.basis.specs.Numbers.{first, count}
use Rattle.basis.proofs.Bools.{never, fails}
use Rattle.basis.proofs.Counting.{Least, first-least}
use Rattle.basis.proofs.Places.{stored_next}
use Rattle.labels.specs.Labels.{lowest_like, leads, label_count, label, leader}
use Rattle.labels.specs.Inner.Grid.{Fit, Labelled, Leading}
use Rattle.labels.proofs.Labels.{Equivalence, lowest-least, is-leads, label_count-le, label_count-mono, label_count-strict, label_count-same, label_same, leader-same, lowest-below, lowest-like, lowest-leads, label-iff, label-below, label-leads, leader-leads, leader-is}

module _ (like : ℕ → ℕ → Bool) (u : ℕ) where
  label_count-new : leads like u ≡ true → label_count like (u + 1) ≡ label_count like u + 1
  unfolding label_count count
  label_count-new h = simp add-one (rw h)

  label_count-old : leads like u ≡ false → label_count like (u + 1) ≡ label_count like u
  unfolding label_count count
  label_count-old h = simp add-one (rw h)

-- the rows before u have their labels, and the labels so far their leaders
pub record Turned (like : ℕ → ℕ → Bool) (m u : ℕ) (labels leaders : List ℕ) (count : ℕ) : Type 0 where
  pub within : u ≤ m
  pub counted : count ≡ label_count like u
  pub few : count ≤ u
  pub labels_long : m ≤ length labels
  pub leaders_long : m ≤ length leaders
  pub labels_are : (i : ℕ) → i < u → get_or labels i 0 ≡ label like i
  pub leaders_are : (l : ℕ) → l < count → get_or leaders l 0 ≡ leader like m l

pub turned_none : (like : ℕ → ℕ → Bool) (m : ℕ) (labels leaders : List ℕ) → m ≤ length labels → m ≤ length leaders → Turned like m 0 labels leaders 0
unfolding label_count count
turned_none like m labels leaders a b =
    record {
      within = zero-le;
      counted = refl;
      few = zero-le;
      labels_long = a;
      leaders_long = b;
      labels_are = below_none _;
      leaders_are = below_none _;
    }

module _ {like : ℕ → ℕ → Bool} {m u : ℕ} {labels leaders : List ℕ} {count : ℕ} (E : Equivalence like m)
    (t : Turned like m u labels leaders count) where
  -- a label's leader is one of the rows
  pub leader-row : (l : ℕ) → l < count → get_or leaders l 0 < m
  leader-row l h =
      let c = t.counted in
      let k = label_count-mono like u m t.within in
      rw (t.leaders_are l h) (leader-is E l (omega arith)).below

  -- the first leader that row u is like
  module _ (h : u < m) (l : ℕ) (q : l ≡ first (λ i. like (get_or leaders i 0) u) count) where
    found : Least (λ i. like (get_or leaders i 0) u) count l
    found = subst (Least (λ i. like (get_or leaders i 0) u) count) (sym q) (first-least _ count)

    pub found-le : l ≤ count
    found-le = found.within

    old_label : l < count → label like u ≡ l
    old_label b =
        let c = t.counted in
        let k = label_count-mono like u m t.within in
        let r = leader-is E l (omega arith) in
        sym ((label-iff E _ u r.below h).1 (rw (← t.leaders_are l b) (found.hit b))) ∙ r.labelled

    new-leads : l ≡ count → leads like u ≡ true
    new-leads e =
        let c = t.counted in
        let none : ¬ (lowest_like like u < u) = λ b.
        let s = label_count-strict like _ u (lowest-leads E u h) b in
        let z = t.leaders_are (label_count like (lowest_like like u)) (omega arith) ∙ leader-leads E _ (lowest-below E u h) (lowest-leads E u h) in
        never (like (lowest_like like u) u) (lowest-like E u h)
        (ap (λ (x : ℕ). like x u) (sym z) ∙ found.before (label_count like (lowest_like like u)) (omega arith)) in
        is-leads like u (omega (arith, (lowest-least like u).within))

    pub turned-old : (l ≡ count → ⊥) → Turned like m (u + 1) (set labels u l) leaders count
    turned-old no_more =
        let c = t.counted in
        let w = found.within in
        let s = old_label (omega arith) in
        let f : leads like u ≡ false = fails (leads like u) (λ e. let z = label-leads E u e in omega arith) in
        record {
          within = omega arith;
          counted = c ∙ sym (label_count-old like u f);
          few = omega (arith, t.few);
          labels_long = simp length-set t.labels_long;
          leaders_long = t.leaders_long;
          labels_are = stored_next (λ i x. x ≡ label like i) 0 labels u l (omega (arith, t.labels_long)) t.labels_are (sym s);
          leaders_are = t.leaders_are;
        }

    pub turned-new : l ≡ count → Turned like m (u + 1) (set labels u l) (set leaders count u) (count + 1)
    turned-new all =
        let c = t.counted in
        let f = new-leads all in
        let d = t.few in
        record {
          within = omega arith;
          counted = ap (λ (x : ℕ). x + 1) c ∙ sym (label_count-new like u f);
          few = omega arith;
          labels_long = simp length-set t.labels_long;
          leaders_long = simp length-set t.leaders_long;
          labels_are = stored_next (λ i x. x ≡ label like i) 0 labels u l (omega (arith, t.labels_long)) t.labels_are (all ∙ c ∙ sym (label-leads E u f));
          leaders_are = stored_next (λ i x. x ≡ leader like m i) 0 leaders count u (omega (arith, t.leaders_long)) t.leaders_are
              (sym (leader-leads E u h f) ∙ ap (leader like m) (sym c));
        }

-- after the last turn all rows are labelled
pub turned-all : {like : ℕ → ℕ → Bool} {m u : ℕ} {labels leaders : List ℕ} {count : ℕ} → Turned like m u labels leaders count → m ≤ u
    → Labelled like m labels leaders count
turned-all {like} {m} {u} t h =
    let q : u ≡ m = omega (arith, t.within) in
    record { counted = t.counted ∙ ap (label_count like) q; labels_are = λ i l. t.labels_are i (omega arith); leaders_are = t.leaders_are }

-- ---- the labels of a like side

-- tests that agree on the m sets are labelled alike
pub labelled-same : {like other : ℕ → ℕ → Bool} {m : ℕ} {labels leaders : List ℕ} {count : ℕ}
    → ((u v : ℕ) → u < m → v < m → like u v ≡ other u v) → Labelled like m labels leaders count → Labelled other m labels leaders count
labelled-same {like} {other} {m} h s =
    record {
      counted = s.counted ∙ label_count-same like other m h m (omega arith);
      labels_are = λ u l. s.labels_are u l ∙ label_same like other m h u l;
      leaders_are = λ k l. s.leaders_are k l ∙ leader-same like other m h k;
    }

-- there are no more labels than sets
pub labelled-few : {like : ℕ → ℕ → Bool} {m : ℕ} {labels leaders : List ℕ} {count : ℕ} → Labelled like m labels leaders count → count ≤ m
labelled-few {like} {m} s = let q = s.counted in omega (arith, label_count-le like m)

-- so a label fits the bits that the number of sets does
pub labelled-fit : {like : ℕ → ℕ → Bool} {m : ℕ} {labels leaders : List ℕ} {count : ℕ} (bits : ℕ) → Equivalence like m
    → Labelled like m labels leaders count → m ≤ 2 ^ bits → Fit bits m labels
labelled-fit {like} {m} bits E s h u l = rw (s.labels_are u l) (lt_of_lt_of_le (label-below E u l) (le_trans (label_count-le like m) h))

-- and the lowest set of a label is one of them and has the label
pub labelled-leads : {like : ℕ → ℕ → Bool} {m : ℕ} {labels leaders : List ℕ} {count : ℕ} → Equivalence like m
    → Labelled like m labels leaders count → Leading m labels leaders count
labelled-leads E s =
    let q = s.counted in
    record {
      row = λ l h. rw (s.leaders_are l h) (leader-is E l (omega arith)).below;
      labelled = λ l h. let r = leader-is E l (omega arith) in rw (s.leaders_are l h) (s.labels_are _ r.below ∙ r.labelled);
    }

-- what is read of a label's leader
module _ {m l count : ℕ} {labels leaders : List ℕ} (L : Leading m labels leaders count) (h : l < count) {u : ℕ} (q : u ≡ get_or leaders l 0) where
  pub leading-row : u < m
  leading-row = rw q (L.row l h)

  pub leading-label : {r : ℕ} → r ≡ get_or labels u 0 → r ≡ l
  leading-label e = e ∙ ap (λ (y : ℕ). get_or labels y 0) q ∙ L.labelled l h
