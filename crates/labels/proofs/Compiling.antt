-- Laws of the compiled labelling of any policy: what stands in the three results, that it grants alike, and that no
-- labelling that does so uses fewer labels.
use Prim.Native.Nat.{ℕ, ◌+◌, ◌*◌, ◌/◌, ◌%◌, ◌≤◌, ◌<◌}
use mathlib.Core.Path.{◌≡◌, ap₂, ◌∙◌}
use mathlib.Core.Bool.{true}
use mathlib.Core.Logic.{◌↔◌}
use lib.Arith.{digits_lt, digits_div, digits_mod}
use lib.ListN.{length, get_or}
use Rattle.basis.proofs.Counting.{length-up_to, get_or-up_to}
use Rattle.basis.proofs.Over.{over-at}
use Rattle.sets.specs.Set.{has}
use Rattle.sets.proofs.Laws.{has-set_of}
use Rattle.policy.specs.Limits.{actions}
use Rattle.policy.specs.Policy.{Policy, sets}
use Rattle.formula.specs.Truth.{at, grants}
use Rattle.labels.specs.Labels.{leader}
use Rattle.labels.specs.Labelling.{Labelling, user_labels, object_labels, GrantsAlike}
use Rattle.labels.specs.Compile.{like_users, like_objects, user_label, object_label, NU, NO, counts, entry_of, entry, user_result, object_result, table_result, Buffers, compiled, filled}
use Rattle.labels.proofs.Labels.{Equivalence, label-below, label-different, leader-like, leader-is, different-same}
use Rattle.labels.proofs.Labelling.{UsersSame, ObjectsSame, users_alike-iff, objects_alike-iff, users-equivalence, objects-equivalence, user-label-iff, object-label-iff, users-fewest, objects-fewest}

module _ (p : Policy) where
  pub like_users-iff : (u v : ℕ) → (like_users p u v ≡ true) ↔ UsersSame (grants p) (actions p.form) (sets p.object) u v
  unfolding like_users
  like_users-iff = users_alike-iff (grants p) (actions p.form) (sets p.object)

  pub like_objects-iff : (o q : ℕ) → (like_objects p o q ≡ true) ↔ ObjectsSame (grants p) (actions p.form) (sets p.user) o q
  unfolding like_objects
  like_objects-iff = objects_alike-iff (grants p) (actions p.form) (sets p.user)

  pub like_users-equivalence : (m : ℕ) → Equivalence (like_users p) m
  unfolding like_users
  like_users-equivalence = users-equivalence (grants p) (actions p.form) (sets p.object)

  pub like_objects-equivalence : (n : ℕ) → Equivalence (like_objects p) n
  unfolding like_objects
  like_objects-equivalence = objects-equivalence (grants p) (actions p.form) (sets p.user)

  -- "Two user sets have the same label exactly when no action and no object set tells them apart. Object sets
  -- likewise."
  pub user_label-iff : (u v : ℕ) → (user_label p u ≡ user_label p v) ↔ UsersSame (grants p) (actions p.form) (sets p.object) u v
  unfolding like_users
  user_label-iff = user-label-iff (grants p) (actions p.form) (sets p.object)

  pub object_label-iff : (o q : ℕ) → (object_label p o ≡ object_label p q) ↔ ObjectsSame (grants p) (actions p.form) (sets p.user) o q
  unfolding like_objects
  object_label-iff = object-label-iff (grants p) (actions p.form) (sets p.user)

  -- ---- the counts

  pub user_label-below : (u : ℕ) → u < sets p.user → user_label p u < NU p
  unfolding NU
  user_label-below = label-below (like_users-equivalence _)

  pub object_label-below : (o : ℕ) → o < sets p.object → object_label p o < NO p
  unfolding NO
  object_label-below = label-below (like_objects-equivalence _)

  -- ---- the table

  -- at the labels of two sets an entry has the actions that are granted
  pub has-entry : (a u o : ℕ) → a < actions p.form → u < sets p.user → o < sets p.object
      → has (entry p (user_label p u) (object_label p o)) a ≡ grants p a (at u o)
  unfolding entry entry_of
  has-entry a u o ha hu ho =
      let ul : ℕ = leader (like_users p) (sets p.user) (user_label p u) in
      let ol : ℕ = leader (like_objects p) (sets p.object) (object_label p o) in
      let b : ol < sets p.object = (leader-is (like_objects-equivalence _) _ (label-below (like_objects-equivalence _) o ho)).below in
      has-set_of (λ i. grants p i (at ul ol)) (actions p.form) a ha
      ∙ (like_users-iff ul u).0 (leader-like (like_users-equivalence _) u hu) a ol ha b
      ∙ (like_objects-iff ol o).0 (leader-like (like_objects-equivalence _) o ho) a u ha hu

  pub length-user_result : length (user_result p) ≡ sets p.user
  unfolding user_result
  length-user_result = length-up_to _ _

  pub length-object_result : length (object_result p) ≡ sets p.object
  unfolding object_result
  length-object_result = length-up_to _ _

  pub length-table_result : length (table_result p) ≡ NU p * NO p
  unfolding table_result
  length-table_result = length-up_to _ _

  pub user_result-at : (u : ℕ) → u < sets p.user → get_or (user_result p) u 0 ≡ user_label p u
  unfolding user_result
  user_result-at u h = get_or-up_to _ _ u 0 h

  pub object_result-at : (o : ℕ) → o < sets p.object → get_or (object_result p) o 0 ≡ object_label p o
  unfolding object_result
  object_result-at o h = get_or-up_to _ _ o 0 h

  pub table_result-at : (ul ol : ℕ) → ul < NU p → ol < NO p → get_or (table_result p) (ul * NO p + ol) 0 ≡ entry p ul ol
  unfolding table_result
  table_result-at ul ol hu ho =
      get_or-up_to (λ i. entry p (i / NO p) (i % NO p)) (NU p * NO p) (ul * NO p + ol) 0 (digits_lt hu ho)
      ∙ ap₂ (entry p) (digits_div ul ho) (digits_mod ul ho)

  -- ---- the compiled labelling, in any buffers that have the results at their starts

  module _ (b : Buffers) where
    pub user-at : (u : ℕ) → u < sets p.user → get_or (filled p b).users u 0 ≡ user_label p u
    user-at u h = over-at (user_result p) b.users u (rw length-user_result h) ∙ user_result-at u h

    pub object-at : (o : ℕ) → o < sets p.object → get_or (filled p b).objects o 0 ≡ object_label p o
    object-at o h = over-at (object_result p) b.objects o (rw length-object_result h) ∙ object_result-at o h

    pub table_at : (ul ol : ℕ) → ul < NU p → ol < NO p → get_or (filled p b).table (ul * NO p + ol) 0 ≡ entry p ul ol
    table_at ul ol hu ho = over-at (table_result p) b.table _ (rw length-table_result (digits_lt hu ho)) ∙ table_result-at ul ol hu ho

    -- it grants alike
    pub compiled-grants : GrantsAlike (grants p) (actions p.form) (sets p.user) (sets p.object) (compiled (counts p) (filled p b))
    unfolding compiled
    compiled-grants a u o ha hu ho =
        rw (user-at u hu, object-at o ho, table_at _ _ (user_label-below u hu) (object_label-below o ho)) (has-entry a u o ha hu ho)

    -- it uses NU and NO labels
    pub compiled-users : user_labels (compiled (counts p) (filled p b)) (sets p.user) ≡ NU p
    unfolding compiled NU
    compiled-users = different-same _ (user_label p) _ user-at ∙ label-different (like_users-equivalence _)

    pub compiled-objects : object_labels (compiled (counts p) (filled p b)) (sets p.object) ≡ NO p
    unfolding compiled NO
    compiled-objects = different-same _ (object_label p) _ object-at ∙ label-different (like_objects-equivalence _)

  -- and every labelling that grants alike uses at least as many
  pub fewest : (l : Labelling) → GrantsAlike (grants p) (actions p.form) (sets p.user) (sets p.object) l
      → (NU p ≤ user_labels l (sets p.user)) × (NO p ≤ object_labels l (sets p.object))
  unfolding NU NO like_users like_objects
  fewest l h = (users-fewest _ _ _ _ l h, objects-fewest _ _ _ _ l h)
