-- Laws of rows: the first column at which two differ, that being alike is an equivalence, and that rows of entries are
-- alike exactly where nothing tells their sets apart; then the search for a like row among those that a list names.
use Prim.Native.Nat.{ℕ, ◌+◌, ◌≤◌, ◌<◌}
use mathlib.Core.Path.{◌≡◌, refl, sym, ap, ◌∙◌}
use mathlib.Core.Bool.{Bool, true, false}
use mathlib.Core.List.{List}
use native.Mathlib.Nat.{le_refl}
use native.Mathlib.Omega.{arith}
use lib.ListN.{get_or}
use borrow.Author.Count.{below_none, below_more}
use borrow.Author.Tests.{eqb-true, eqb-false, eq-eqb, ne_eqb, not-true, not-false}
use Rattle.basis.specs.Numbers.{first}
use Rattle.basis.proofs.Bools.{fails, both_ways}
use Rattle.basis.proofs.Counting.{first-least, first-is}
use Rattle.sets.specs.Set.{has, set_of}
use Rattle.sets.proofs.Laws.{has-set_of, set_of-same}
use Rattle.formula.specs.Truth.{Sets, at}
use Rattle.labels.specs.Labelling.{users_alike, objects_alike}
use Rattle.labels.specs.Rows.{first_unlike, rows_alike}
use Rattle.labels.proofs.Labels.{Equivalence}
use Rattle.labels.proofs.Labelling.{users_alike-iff, turned, objects_alike-turned}

-- ---- the first column at which two rows differ

module _ (f g : ℕ → ℕ) (n : ℕ) where
  pub unlike-within : first_unlike f g n ≤ n
  unfolding first_unlike
  unlike-within = (first-least _ n).within

  pub unlike-before : (o : ℕ) → o < first_unlike f g n → f o ≡ g o
  unfolding first_unlike
  unlike-before o h = eqb-true (f o) (g o) (not-false _ ((first-least _ n).before o h))

  pub unlike-at : first_unlike f g n < n → f (first_unlike f g n) ≡ g (first_unlike f g n) → ⊥
  unfolding first_unlike
  unlike-at h = eqb-false _ _ (not-true _ ((first-least _ n).hit h))

  -- where there is one
  pub unlike-below : (r : ℕ) → r ≡ first_unlike f g n → (r ≡ n → ⊥) → r < n
  unlike-below r q e = omega (arith, unlike-within)

  pub unlike-is : (r : ℕ) → r ≤ n → ((o : ℕ) → o < r → f o ≡ g o) → (r < n → f r ≡ g r → ⊥) → first_unlike f g n ≡ r
  unfolding first_unlike
  unlike-is r w b h =
      first-is _ n r
      (record { within = w; before = λ o l. rw (eq-eqb (f o) (g o) (b o l)); hit = λ l. rw (ne_eqb (f r) (g r) (h l)) })

-- ---- rows that are alike

module _ (f : ℕ → ℕ → ℕ) (n : ℕ) where
  pub alike_at : (u v : ℕ) → rows_alike f n u v ≡ true → (o : ℕ) → o < n → f u o ≡ f v o
  unfolding rows_alike
  alike_at u v e o h = unlike-before (f u) (f v) n o (omega (arith, eqb-true (first_unlike (f u) (f v) n) n e))

  pub alike_of : (u v : ℕ) → ((o : ℕ) → o < n → f u o ≡ f v o) → rows_alike f n u v ≡ true
  unfolding rows_alike
  alike_of u v h = eq-eqb _ n (unlike-is (f u) (f v) n n (le_refl n) h (λ l. absurd (omega arith)))

  pub unlike-of : (u v o : ℕ) → o < n → (f u o ≡ f v o → ⊥) → rows_alike f n u v ≡ false
  unlike-of u v o l h = fails (rows_alike f n u v) (λ e. h (alike_at u v e o l))

  pub rows-equivalence : (m : ℕ) → Equivalence (rows_alike f n) m
  rows-equivalence m =
      record {
        reflexive = λ u hu. alike_of u u (λ o l. refl);
        symmetric = λ u v hu hv e. alike_of v u (λ o l. sym (alike_at u v e o l));
        transitive = λ u v w hu hv hw e i. alike_of u w (λ o l. alike_at u v e o l ∙ alike_at v w i o l);
      }

-- rows of the entries of what is granted, `g action sets` with the row's set the user's, of k actions
pub rows_alike_lem : (f : ℕ → ℕ → ℕ) (g : ℕ → Sets → Bool) (k m n : ℕ) → ((u o : ℕ) → u < m → o < n → f u o ≡ set_of (λ a. g a (at u o)) k)
    → (u v : ℕ) → u < m → v < m → rows_alike f n u v ≡ users_alike g k n u v
rows_alike_lem f g k m n entries u v hu hv =
    both_ways (rows_alike f n u v) (users_alike g k n u v)
    (λ e. (users_alike-iff g k n u v).1 (λ a o ha ho.
    sym (has-set_of _ k a ha)
    ∙ ap (λ (x : ℕ). has x a) (sym (entries u o hu ho) ∙ alike_at f n u v e o ho ∙ entries v o hv ho)
    ∙ has-set_of _ k a ha))
    (λ e. alike_of f n u v (λ o ho.
    entries u o hu ho ∙ set_of-same _ _ k (λ a ha. (users_alike-iff g k n u v).0 e a o ha ho) ∙ sym (entries v o hv ho)))

-- and with the row's set the object's
pub columns_alike : (f : ℕ → ℕ → ℕ) (g : ℕ → Sets → Bool) (k m n : ℕ) → ((o u : ℕ) → o < n → u < m → f o u ≡ set_of (λ a. g a (at u o)) k)
    → (o q : ℕ) → o < n → q < n → rows_alike f m o q ≡ objects_alike g k m o q
columns_alike f g k m n entries = rw (objects_alike-turned g k m) (rows_alike_lem f (turned g) k n m entries)

-- ---- looking for a row like u among those that a list names

-- those before place k are unlike u
pub record Passed (f : ℕ → ℕ → ℕ) (n u : ℕ) (named : List ℕ) (count k : ℕ) : Type 0 where
  pub within : k ≤ count
  pub before : (i : ℕ) → i < k → rows_alike f n (get_or named i 0) u ≡ false

-- and the next of them, v, is like u before column o
pub record Comparing (f : ℕ → ℕ → ℕ) (n u : ℕ) (named : List ℕ) (count k v o : ℕ) : Type 0 where
  pub passed : Passed f n u named count k
  pub under : k < count
  pub row : v ≡ get_or named k 0
  pub within : o ≤ n
  pub same : (i : ℕ) → i < o → f v i ≡ f u i

module _ {f : ℕ → ℕ → ℕ} {n u : ℕ} {named : List ℕ} {count k : ℕ} where
  pub none-like : Passed f n u named count k → count ≤ k → count ≡ first (λ i. rows_alike f n (get_or named i 0) u) count
  none-like p l =
      sym (first-is _ count count
      (record { within = le_refl count; before = λ i h. p.before i (omega arith); hit = λ h. absurd (omega arith) }))

  pub compare_none : {v : ℕ} → Passed f n u named count k → k < count → v ≡ get_or named k 0 → Comparing f n u named count k v 0
  compare_none p h q = record { passed = p; under = h; row = q; within = omega arith; same = below_none _ }

module _ {f : ℕ → ℕ → ℕ} {n u : ℕ} {named : List ℕ} {count k v o : ℕ} (c : Comparing f n u named count k v o) where
  pub compare_more : o < n → f v o ≡ f u o → Comparing f n u named count k v (o + 1)
  compare_more h q =
      record { passed = c.passed; under = c.under; row = c.row; within = omega arith; same = below_more _ o c.same q }

  -- the first column at which v differs is enough
  pub passed-more : o < n → (f v o ≡ f u o → ⊥) → Passed f n u named count (k + 1)
  passed-more l h =
      let under = c.under in
      record { within = omega arith; before = below_more _ k c.passed.before (rw (← c.row) (unlike-of f n v u o l h)) }

  pub found-like : n ≤ o → k ≡ first (λ i. rows_alike f n (get_or named i 0) u) count
  found-like all =
      let under = c.under in
      sym (first-is _ count k
      (record {
        within = omega arith;
        before = c.passed.before;
        hit = λ _. rw (← c.row) (alike_of f n v u (λ i h. c.same i (omega arith)));
      }))
