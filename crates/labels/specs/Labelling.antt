-- Which sets are alike, what a labelling is, and when it grants alike. All over what is granted, `g action sets`, and
-- over any number of actions k, of user sets m and of object sets n.
use Rattle.std.specs.Prelude.{ℕ, ◌<◌, ◌≡◌, Bool}
use Rattle.basis.specs.Numbers.{every, agree}
use Rattle.formula.specs.Truth.{Sets, at}
use Rattle.labels.specs.Labels.{different}

-- "no action and no object set tells them apart. Telling apart is being granted for one and denied for the other."
unfoldable pub users_alike : (ℕ → Sets → Bool) → ℕ → ℕ → ℕ → ℕ → Bool
users_alike g k n u v = every (λ o. every (λ a. agree (g a (at u o)) (g a (at v o))) k) n

-- "Object sets likewise."
unfoldable pub objects_alike : (ℕ → Sets → Bool) → ℕ → ℕ → ℕ → ℕ → Bool
objects_alike g k m o p = every (λ u. every (λ a. agree (g a (at u o)) (g a (at u p))) k) m

-- "A labelling in general gives a number to each user set and each object set, and has a table that says granted or
-- denied for every user number and object number given and every action."
pub record Labelling : Type 0 where
  pub user : ℕ → ℕ
  pub object : ℕ → ℕ
  pub table : ℕ → ℕ → ℕ → Bool

-- "It uses as many user labels as there are different numbers given to the user sets; object labels likewise."
abbrev pub user_labels : Labelling → ℕ → ℕ
user_labels l m = different l.user m

abbrev pub object_labels : Labelling → ℕ → ℕ
object_labels l n = different l.object n

-- "It grants alike when for every user set, object set and action its table, at their two numbers, says granted exactly
-- when the formula is true", or a pair holds: where g says so
abbrev pub GrantsAlike : (ℕ → Sets → Bool) → ℕ → ℕ → ℕ → Labelling → Type 0
GrantsAlike g k m n l = (a u o : ℕ) → a < k → u < m → o < n → l.table (l.user u) (l.object o) a ≡ g a (at u o)
