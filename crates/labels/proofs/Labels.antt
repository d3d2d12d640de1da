-- Laws of labels over any test `like` that is an equivalence on the sets below m. A set leads where no lower set is
-- like it, and the label of a set is how many sets lead below the lowest of its like; so the laws come from those of
-- `first` and `count`.
use Prim.Native.Nat.{ℕ, ◌≤◌, ◌<◌}
use mathlib.Core.Path.{◌≡◌, sym, ap, ◌∙◌}
use mathlib.Core.Bool.{Bool, true}
use mathlib.Core.Logic.{◌↔◌, ⊎_elim}
use native.Mathlib.Nat.{eq-or-lt_of_le}
use native.Mathlib.Omega.{arith}
use lib.Dec.{eqb}
use borrow.Author.Tests.{eqb-true, eq-eqb, ne_eqb}
use Rattle.basis.proofs.Bools.{never}
use Rattle.basis.proofs.Counting.{Least, first-least, first-is, first-same, count-strict, count-mono, count_under, count-le, nth}
use Rattle.labels.specs.Labels.{lowest_like, leads, label_count, label, leader, different}

-- like is an equivalence on the sets below m
pub record Equivalence (like : ℕ → ℕ → Bool) (m : ℕ) : Type 0 where
  pub reflexive : (u : ℕ) → u < m → like u u ≡ true
  pub symmetric : (u v : ℕ) → u < m → v < m → like u v ≡ true → like v u ≡ true
  pub transitive : (u v w : ℕ) → u < m → v < m → w < m → like u v ≡ true → like v w ≡ true → like u w ≡ true

-- ---- of any test

module _ (like : ℕ → ℕ → Bool) where
  pub lowest-least : (u : ℕ) → Least (λ v. like v u) u (lowest_like like u)
  unfolding lowest_like
  lowest-least u = first-least _ u

  pub leads-is : (u : ℕ) → leads like u ≡ true → lowest_like like u ≡ u
  unfolding leads
  leads-is u = eqb-true _ u

  pub is-leads : (u : ℕ) → lowest_like like u ≡ u → leads like u ≡ true
  unfolding leads
  is-leads u = eq-eqb _ u

  -- there are no more labels than sets
  pub label_count-le : (m : ℕ) → label_count like m ≤ m
  unfolding label_count
  label_count-le m = count-le (leads like) m

  pub label_count-mono : (a b : ℕ) → a ≤ b → label_count like a ≤ label_count like b
  unfolding label_count
  label_count-mono = count-mono (leads like)

  pub label_count-strict : (a b : ℕ) → leads like a ≡ true → a < b → label_count like a < label_count like b
  unfolding label_count
  label_count-strict = count-strict (leads like)

-- a finer test needs at least as many labels
pub label_count-finer : (like finer : ℕ → ℕ → Bool) (m : ℕ)
    → ((u v : ℕ) → u < m → v < m → finer u v ≡ true → like u v ≡ true) → label_count like m ≤ label_count finer m
unfolding label_count
label_count-finer like finer m h =
    count_under (leads like) (leads finer) m (λ u b l.
    let q = leads-is like u l in
    let f = lowest-least finer u in
    let none : ¬ (lowest_like finer u < u) = λ s.
    never (like (lowest_like finer u) u) (h _ u (omega arith) b (f.hit s)) ((lowest-least like u).before _ (omega arith)) in
    is-leads finer u (omega (arith, f.within)))

-- tests that agree on the sets below m give them the same labels
module _ (like other : ℕ → ℕ → Bool) (m : ℕ) (same : (u v : ℕ) → u < m → v < m → like u v ≡ other u v) where
  pub lowest_like-same : (u : ℕ) → u < m → lowest_like like u ≡ lowest_like other u
  unfolding lowest_like
  lowest_like-same u h = first-same _ _ u (λ v l. same v u (omega arith) h)

  pub label_count-same : (n : ℕ) → n ≤ m → label_count like n ≡ label_count other n
  label_count-same n h =
      let a = label_count-finer like other n (λ u v hu hv e. same u v (omega arith) (omega arith) ∙ e) in
      let b = label_count-finer other like n (λ u v hu hv e. sym (same u v (omega arith) (omega arith)) ∙ e) in
      omega arith

  pub label_same : (u : ℕ) → u < m → label like u ≡ label other u
  unfolding label
  label_same u h =
      label_count-same (lowest_like like u) (omega (arith, (lowest-least like u).within)) ∙ ap (label_count other) (lowest_like-same u h)

  pub leader-same : (l : ℕ) → leader like m l ≡ leader other m l
  unfolding leader
  leader-same l = first-same _ _ m (λ u h. ap (λ (x : ℕ). eqb x l) (label_same u h))

-- so does a numbering that keeps unlike sets apart
pub different-least : (like : ℕ → ℕ → Bool) (f : ℕ → ℕ) (m : ℕ)
    → ((u v : ℕ) → u < m → v < m → f u ≡ f v → like u v ≡ true) → label_count like m ≤ different f m
unfolding different
different-least like f m h = label_count-finer like _ m (λ u v hu hv q. h u v hu hv (eqb-true (f u) (f v) q))

-- and two numberings that agree below m give equally many numbers
pub different-same : (f g : ℕ → ℕ) (m : ℕ) → ((u : ℕ) → u < m → f u ≡ g u) → different f m ≡ different g m
unfolding different
different-same f g m h =
    let a = label_count-finer (λ u v. eqb (f u) (f v)) (λ u v. eqb (g u) (g v)) m (λ u v hu hv q.
    eq-eqb (f u) (f v) (h u hu ∙ eqb-true (g u) (g v) q ∙ sym (h v hv))) in
    let b = label_count-finer (λ u v. eqb (g u) (g v)) (λ u v. eqb (f u) (f v)) m (λ u v hu hv q.
    eq-eqb (g u) (g v) (sym (h u hu) ∙ eqb-true (f u) (f v) q ∙ h v hv)) in
    omega arith

-- ---- of an equivalence

-- r stands for the label l: it is the lowest of the m sets that have this label, and l sets lead below it
pub record Leader (like : ℕ → ℕ → Bool) (m l r : ℕ) : Type 0 where
  pub below : r < m
  pub labelled : label like r ≡ l
  pub lowest : (u : ℕ) → u < m → label like u ≡ l → r ≤ u
  pub leading : leads like r ≡ true
  pub rank : label_count like r ≡ l

module _ {like : ℕ → ℕ → Bool} {m : ℕ} (E : Equivalence like m) where
  pub lowest-below : (u : ℕ) → u < m → lowest_like like u < m
  lowest-below u h = omega (arith, (lowest-least like u).within)

  pub lowest-like : (u : ℕ) → u < m → like (lowest_like like u) u ≡ true
  lowest-like u h =
      ⊎_elim (λ q. rw q (E.reflexive u h)) (λ l. (lowest-least like u).hit l) (eq-or-lt_of_le (lowest-least like u).within)

  lowest-under : (u v : ℕ) → u < m → v < m → like u v ≡ true → ¬ (lowest_like like v < lowest_like like u)
  lowest-under u v hu hv q l =
      never (like (lowest_like like v) u)
      (E.transitive _ v u (lowest-below v hv) hv hu (lowest-like v hv) (E.symmetric u v hu hv q))
      ((lowest-least like u).before _ l)

  pub lowest-same : (u v : ℕ) → u < m → v < m → like u v ≡ true → lowest_like like u ≡ lowest_like like v
  lowest-same u v hu hv q =
      let a = lowest-under u v hu hv q in
      let b = lowest-under v u hv hu (E.symmetric u v hu hv q) in
      omega arith

  pub lowest-leads : (u : ℕ) → u < m → leads like (lowest_like like u) ≡ true
  lowest-leads u h = is-leads like _ (lowest-same _ u (lowest-below u h) h (lowest-like u h))

  -- two sets that lead have different labels
  leads-apart : (a b : ℕ) → leads like a ≡ true → label_count like a ≡ label_count like b → ¬ (a < b)
  leads-apart a b l q h = let s = label_count-strict like a b l h in omega arith

  -- two sets have the same label exactly when they are alike
  pub label-iff : (u v : ℕ) → u < m → v < m → (label like u ≡ label like v) ↔ (like u v ≡ true)
  unfolding label
  label-iff u v hu hv = (
    (λ q.
        let a = leads-apart (lowest_like like u) (lowest_like like v) (lowest-leads u hu) q in
        let b = leads-apart (lowest_like like v) (lowest_like like u) (lowest-leads v hv) (sym q) in
        let s : lowest_like like u ≡ lowest_like like v = omega arith in
        E.transitive u _ v hu (lowest-below u hu) hv (E.symmetric _ u (lowest-below u hu) hu (lowest-like u hu)) (rw s (lowest-like v hv))),
    (λ q. ap (label_count like) (lowest-same u v hu hv q)),
  )

  -- the labels are the numbers below their count
  pub label-below : (u : ℕ) → u < m → label like u < label_count like m
  unfolding label
  label-below u h = label_count-strict like _ m (lowest-leads u h) (lowest-below u h)

  pub label-leads : (u : ℕ) → leads like u ≡ true → label like u ≡ label_count like u
  unfolding label
  label-leads u l = ap (label_count like) (leads-is like u l)

  pub label-used : (l : ℕ) → l < label_count like m → (u : ℕ) × (u < m) × (label like u ≡ l)
  unfolding label_count
  label-used l h = let n = nth (leads like) m l h in (n.at, n.below, label-leads n.at n.passes ∙ n.rank)

  -- as many labels are used as are counted
  pub label-different : different (label like) m ≡ label_count like m
  unfolding different
  label-different =
      let a = label_count-finer like (λ u v. eqb (label like u) (label like v)) m (λ u v hu hv q.
      (label-iff u v hu hv).0 (eqb-true (label like u) (label like v) q)) in
      let b = label_count-finer (λ u v. eqb (label like u) (label like v)) like m (λ u v hu hv q.
      eq-eqb (label like u) (label like v) ((label-iff u v hu hv).1 q)) in
      omega arith

  -- the leader of a set's label is the lowest of its like
  pub leader-lowest : (u : ℕ) → u < m → leader like m (label like u) ≡ lowest_like like u
  unfolding leader
  leader-lowest u h =
      let b : lowest_like like u < m = lowest-below u h in
      first-is (λ v. eqb (label like v) (label like u)) m (lowest_like like u)
      (record {
        within = omega arith;
        before = λ v l. ne_eqb (label like v) (label like u) (λ q.
            never (like v u) ((label-iff v u (omega arith) h).0 q) ((lowest-least like u).before v l));
        hit = λ l. eq-eqb (label like (lowest_like like u)) (label like u) ((label-iff _ u b h).1 (lowest-like u h));
      })

  pub leader-like : (u : ℕ) → u < m → like (leader like m (label like u)) u ≡ true
  leader-like u h = rw (leader-lowest u h) (lowest-like u h)

  pub leader-leads : (u : ℕ) → u < m → leads like u ≡ true → leader like m (label_count like u) ≡ u
  leader-leads u h l = ap (leader like m) (sym (label-leads u l)) ∙ leader-lowest u h ∙ leads-is like u l

  -- each label has its leader
  pub leader-is : (l : ℕ) → l < label_count like m → Leader like m l (leader like m l)
  unfolding label_count
  leader-is l h =
      let n = nth (leads like) m l h in
      let q : leader like m l ≡ n.at = ap (leader like m) (sym n.rank) ∙ leader-leads n.at n.below n.passes in
      rw q (record {
        below = n.below;
        labelled = label-leads n.at n.passes ∙ n.rank;
        lowest = λ u b e. omega (arith, sym q ∙ ap (leader like m) (sym e) ∙ leader-lowest u b, (lowest-least like u).within);
        leading = n.passes;
        rank = n.rank;
      })

  -- "Labels count from 0 in order of each label's lowest set."
  pub leaders_rise : (k l : ℕ) → k < l → l < label_count like m → leader like m k < leader like m l
  leaders_rise k l h b =
      let a = (leader-is k (omega arith)).rank in
      let c = (leader-is l b).rank in
      let s : ¬ (leader like m l ≤ leader like m k) = λ z. let t = label_count-mono like _ _ z in omega arith in
      omega arith
