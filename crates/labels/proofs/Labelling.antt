-- Laws of labellings over what is granted, `g action sets`, and over any number of actions k, user sets m and object
-- sets n. The laws of object sets are those of user sets with the two sides changed over.
use Prim.Native.Nat.{ℕ, suc, ◌+◌, ◌≤◌, ◌<◌}
use mathlib.Core.Path.{◌≡◌, refl, sym, ap, ◌∙◌}
use mathlib.Core.Bool.{Bool, true}
use mathlib.Core.Logic.Iff
use mathlib.Core.Logic.{◌↔◌}
use native.Mathlib.Omega.{arith}
use Rattle.basis.proofs.Numbers.{every-at, every_of}
use Rattle.basis.proofs.Same.{agree-eq, eq_agree}
use Rattle.formula.specs.Truth.{Sets, at}
use Rattle.labels.specs.Labels.{label, label_count}
use Rattle.labels.specs.Labelling.{users_alike, objects_alike, Labelling, user_labels, object_labels, GrantsAlike}
use Rattle.labels.proofs.Labels.{Equivalence, label-iff, different-least}

-- no action and no object set tells two user sets apart; no action and no user set two object sets
abbrev pub UsersSame : (ℕ → Sets → Bool) → ℕ → ℕ → ℕ → ℕ → Type 0
UsersSame g k n u v = (a o : ℕ) → a < k → o < n → g a (at u o) ≡ g a (at v o)

abbrev pub ObjectsSame : (ℕ → Sets → Bool) → ℕ → ℕ → ℕ → ℕ → Type 0
ObjectsSame g k m o p = (a u : ℕ) → a < k → u < m → g a (at u o) ≡ g a (at u p)

-- what is granted, with the two sides changed over
abbrev pub turned : (ℕ → Sets → Bool) → ℕ → Sets → Bool
turned g a s = g a (at s.object s.user)

-- ---- user sets

module _ (g : ℕ → Sets → Bool) (k n : ℕ) where
  pub users_alike-iff : (u v : ℕ) → (users_alike g k n u v ≡ true) ↔ UsersSame g k n u v
  unfolding users_alike
  users_alike-iff u v = (
    (λ e a o ha ho. agree-eq (g a (at u o)) (g a (at v o)) (every-at _ k (every-at _ n e o ho) a ha)),
    (λ h. every_of _ n (λ o ho. every_of _ k (λ a ha. eq_agree (g a (at u o)) (g a (at v o)) (h a o ha ho)))),
  )

  pub users-equivalence : (m : ℕ) → Equivalence (users_alike g k n) m
  users-equivalence m =
      record {
        reflexive = λ u hu. (users_alike-iff u u).1 (λ a o ha ho. refl);
        symmetric = λ u v hu hv e. (users_alike-iff v u).1 (λ a o ha ho. sym ((users_alike-iff u v).0 e a o ha ho));
        transitive = λ u v w hu hv hw e f.
            (users_alike-iff u w).1 (λ a o ha ho. (users_alike-iff u v).0 e a o ha ho ∙ (users_alike-iff v w).0 f a o ha ho);
      }

  -- "Two user sets have the same label exactly when no action and no object set tells them apart."
  pub user-label-iff : (u v : ℕ) → (label (users_alike g k n) u ≡ label (users_alike g k n) v) ↔ UsersSame g k n u v
  user-label-iff u v =
      Iff.trans (label-iff (users-equivalence (suc (u + v))) u v (omega arith) (omega arith)) (users_alike-iff u v)

  -- every labelling that grants alike uses at least as many user labels
  pub users-fewest : (m : ℕ) (l : Labelling) → GrantsAlike g k m n l → label_count (users_alike g k n) m ≤ user_labels l m
  users-fewest m l h =
      different-least (users_alike g k n) l.user m (λ u v hu hv q.
      (users_alike-iff u v).1 (λ a o ha ho.
      sym (h a u o ha hu ho) ∙ ap (λ (x : ℕ). l.table x (l.object o) a) q ∙ h a v o ha hv ho))

-- ---- object sets

module _ (g : ℕ → Sets → Bool) (k m : ℕ) where
  pub objects_alike-turned : objects_alike g k m ≡ users_alike (turned g) k m
  unfolding objects_alike users_alike
  objects_alike-turned = refl

  pub objects_alike-iff : (o p : ℕ) → (objects_alike g k m o p ≡ true) ↔ ObjectsSame g k m o p
  objects_alike-iff = rw objects_alike-turned (users_alike-iff (turned g) k m)

  pub objects-equivalence : (n : ℕ) → Equivalence (objects_alike g k m) n
  objects-equivalence = rw objects_alike-turned (users-equivalence (turned g) k m)

  -- "Object sets likewise."
  pub object-label-iff : (o p : ℕ) → (label (objects_alike g k m) o ≡ label (objects_alike g k m) p) ↔ ObjectsSame g k m o p
  object-label-iff = rw objects_alike-turned (user-label-iff (turned g) k m)

  pub objects-fewest : (n : ℕ) (l : Labelling) → GrantsAlike g k m n l → label_count (objects_alike g k m) n ≤ object_labels l n
  objects-fewest n l h =
      rw objects_alike-turned
      (users-fewest (turned g) k m n (record { user = l.object; object = l.user; table = λ ol ul. l.table ul ol })
      (λ a o u ha ho hu. h a u o ha hu ho))
