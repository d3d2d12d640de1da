-- Laws of labels by strips: before any column is looked at all rows are alike; rows that had one label and are alike in
-- a strip are alike up to its end; and columns are alike where they are in one row of each label.
use Prim.Native.Nat.{ℕ, zero, suc, ◌+◌, ◌-◌, ◌<◌}
use mathlib.Core.Path.{◌≡◌, sym, ◌∙◌}
use mathlib.Core.Bool.{true}
use mathlib.Core.List.{List}
use native.Mathlib.Decide.{dec_lt}
use native.Mathlib.Omega.{arith}
use lib.ListN.{get_or}
use borrow.Author.Count.{below_none}
use Rattle.basis.proofs.Bools.{both_ways}
use Rattle.labels.specs.Labels.{label_count, label, leader}
use Rattle.labels.specs.Rows.{rows_alike}
use Rattle.labels.specs.Inner.Grid.{joined, Labelled}
use Rattle.labels.proofs.Alike.{alike_at, alike_of, rows-equivalence}
use Rattle.labels.proofs.Labels.{lowest-least, is-leads, label_count-le, label-iff, label-below, label-leads, label-used, leader-is, leader-like}

-- rows that agree column by column are alike where the others are
pub alike_same : (f g : ℕ → ℕ → ℕ) (n u v : ℕ) → ((o : ℕ) → o < n → f u o ≡ g u o) → ((o : ℕ) → o < n → f v o ≡ g v o) → rows_alike f n u v ≡ rows_alike g n u v
alike_same f g n u v a b =
    both_ways (rows_alike f n u v) (rows_alike g n u v)
    (λ e. alike_of g n u v (λ o h. sym (a o h) ∙ alike_at f n u v e o h ∙ b o h))
    (λ e. alike_of f n u v (λ o h. a o h ∙ alike_at g n u v e o h ∙ sym (b o h)))

module _ (f : ℕ → ℕ → ℕ) (m : ℕ) where
  -- one label, before the first column
  pub labelled-none : 0 < m → (labels leaders : List ℕ) → ((u : ℕ) → get_or labels u 0 ≡ 0) → get_or leaders 0 0 ≡ 0 → Labelled (rows_alike f 0) m labels leaders 1
  labelled-none h labels leaders ls fs =
      let like = rows_alike f 0 in
      let E = rows-equivalence f 0 m in
      let first : label like 0 ≡ 0 = label-leads E 0 (is-leads like 0 (omega (arith, (lowest-least like 0).within))) ∙ omega (arith, label_count-le like 0) in
      let same : (u : ℕ) → u < m → label like u ≡ 0 = λ u hu. (label-iff E u 0 hu h).1 (alike_of f 0 u 0 (below_none _)) ∙ first in
      let one : ¬ (1 < label_count like m) = λ l. let x = label-used E 1 l in omega (arith, same x.0 x.1, x.2) in
      let some : 0 < label_count like m = omega (arith, label-below E 0 h) in
      record {
        counted = omega arith;
        labels_are = λ u hu. ls u ∙ sym (same u hu);
        leaders_are = λ l hl. let e : l ≡ 0 = omega arith in rw e (fs ∙ sym (omega (arith, (leader-is E 0 some).lowest 0 h first)));
      }

  -- a strip of c columns behind s
  module _ (s : ℕ) {before leaders : List ℕ} {count : ℕ} (L : Labelled (rows_alike f s) m before leaders count) (g : ℕ → ℕ → ℕ) (c : ℕ)
      (strip : (u i : ℕ) → u < m → i < c → g u i ≡ f u (s + i)) (u v : ℕ) (hu : u < m) (hv : v < m) where
    still-so : rows_alike (joined before g) (suc c) u v ≡ true → (o : ℕ) → o < s + c → f u o ≡ f v o
    unfolding joined
    still-so e o h = elim (dec_lt o s) [
      | yes b ↦ alike_at f s u v ((label-iff (rows-equivalence f s m) u v hu hv).0
          (sym (L.labels_are u hu) ∙ alike_at (joined before g) (suc c) u v e 0 (omega arith) ∙ L.labels_are v hv)) o b
      | no b ↦
          let i : ℕ = o - s in
          let q : s + i ≡ o = omega arith in
          rw (← q) (sym (strip u i hu (omega arith)) ∙ alike_at (joined before g) (suc c) u v e (suc i) (omega arith) ∙ strip v i hv (omega arith))
    ]

    were_so : ((o : ℕ) → o < s + c → f u o ≡ f v o) → (o : ℕ) → o < suc c → joined before g u o ≡ joined before g v o
    unfolding joined
    were_so h zero l = L.labels_are u hu ∙ (label-iff (rows-equivalence f s m) u v hu hv).1 (alike_of f s u v (λ o b. h o (omega arith))) ∙ sym (L.labels_are v hv)
    were_so h (suc i) l = strip u i hu (omega arith) ∙ h (s + i) (omega arith) ∙ sym (strip v i hv (omega arith))

    pub still_alike : rows_alike (joined before g) (suc c) u v ≡ rows_alike f (s + c) u v
    still_alike =
        both_ways (rows_alike (joined before g) (suc c) u v) (rows_alike f (s + c) u v)
        (λ e. alike_of f (s + c) u v (still-so e))
        (λ e. alike_of (joined before g) (suc c) u v (were_so (alike_at f (s + c) u v e)))

-- with no label given before, only what is looked at tells
pub joined-alike : (before : List ℕ) → ((u : ℕ) → get_or before u 0 ≡ 0) → (g : ℕ → ℕ → ℕ) (c m u v : ℕ) → 0 < m → u < m → v < m
    → rows_alike (joined before g) (suc c) u v ≡ rows_alike g c u v
joined-alike before z g c m u v h hu hv =
    let e : 0 + c ≡ c = omega arith in
    rw e at (still_alike g m 0 (labelled-none g m h before before z (z 0)) g c (λ w i a b. let q : 0 + i ≡ i = omega arith in rw q) u v hu hv)

-- the columns o and q of n, where the rows of m sets are labelled: one row of each label is enough
pub leaders_enough : (e : ℕ → ℕ → ℕ) (m n : ℕ) {labels leaders : List ℕ} {count : ℕ} → Labelled (rows_alike e n) m labels leaders count
    → (o q : ℕ) → o < n → q < n → rows_alike (λ x l. e (get_or leaders l 0) x) count o q ≡ rows_alike (λ x u. e u x) m o q
leaders_enough e m n {labels} {leaders} {count} L o q ho hq =
    let like = rows_alike e n in
    let E = rows-equivalence e n m in
    let f : ℕ → ℕ → ℕ = λ x l. e (get_or leaders l 0) x in
    let g : ℕ → ℕ → ℕ = λ x u. e u x in
    let row : (u x : ℕ) → u < m → x < n → e u x ≡ e (get_or leaders (label like u) 0) x = λ u x hu hx.
    let b : label like u < count = omega (arith, L.counted, label-below E u hu) in
    rw (L.leaders_are (label like u) b) (sym (alike_at e n (leader like m (label like u)) u (leader-like E u hu) x hx)) in
    both_ways (rows_alike f count o q) (rows_alike g m o q)
    (λ h. alike_of g m o q (λ u hu.
    row u o hu ho ∙ alike_at f count o q h (label like u) (omega (arith, L.counted, label-below E u hu)) ∙ sym (row u q hu hq)))
    (λ h. alike_of f count o q (λ l hl.
    alike_at g m o q h (get_or leaders l 0) (rw (L.leaders_are l hl) (leader-is E l (omega (arith, L.counted))).below)))
