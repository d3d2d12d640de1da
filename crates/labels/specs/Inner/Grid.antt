-- A grid lists entries in rows; either side's sets can be taken as its rows.
use Rattle.std.specs.Prelude.{ℕ, zero, suc, ◌+◌, ◌*◌, ◌^◌, ◌≤◌, ◌<◌, ◌≡◌, Bool, List, get_or}
use Rattle.basis.specs.Lists.{over}
use Rattle.basis.specs.Numbers.{up_to}
use Rattle.policy.specs.Limits.{most_sets}
use Rattle.policy.specs.Policy.{Policy, sets}
use Rattle.formula.specs.Truth.{at}
use Rattle.labels.specs.Labels.{label, label_count, leader}
use Rattle.labels.specs.Rows.{rows_alike}
use Rattle.labels.specs.Compile.{entry_of}
use Rattle.labels.specs.declared.grid.View.{View}

-- how many entries it has
abbrev pub grid_places : ℕ
grid_places = 16384

-- what stands in row u and column o
abbrev pub cell : List ℕ → View → ℕ → ℕ → ℕ
cell grid view u o = get_or grid (u * view.down + o * view.along) 0

-- a row of labels that were given before, and of what is looked at now
unfoldable pub joined : List ℕ → (ℕ → ℕ → ℕ) → ℕ → ℕ → ℕ
joined before f u zero = get_or before u 0
joined before f u (suc o) = f u o

-- two rows had one label, and are alike
abbrev pub like_still : List ℕ → List ℕ → View → ℕ → ℕ → Bool
like_still before grid view = rows_alike (joined before (cell grid view)) (suc view.columns)

-- the same grid as seen from the other side
abbrev pub turned_view : View → View
turned_view view = record { rows = view.columns; columns = view.rows; down = view.along; along = view.down }

-- all rows and columns lie in the grid
pub record Inside (view : View) : Type 0 where
  pub few-rows : view.rows ≤ most_sets
  pub few-columns : view.columns ≤ most_sets
  pub inside : (u o : ℕ) → u < view.rows → o < view.columns → u * view.down + o * view.along < grid_places

-- each of the first n labels fits so many bits
abbrev pub Fit : ℕ → ℕ → List ℕ → Type 0
Fit bits n labels = (u : ℕ) → u < n → get_or labels u 0 < 2 ^ bits

-- the user sets of a policy are the rows
pub record ViewOf (p : Policy) (view : View) : Type 0 where
  pub users : view.rows ≡ sets p.user
  pub objects : view.columns ≡ sets p.object
  pub few-users : view.rows ≤ most_sets
  pub few-objects : view.columns ≤ most_sets
  pub down : view.down ≡ view.columns
  pub along : view.along ≡ 1

-- and the grid has their entries
abbrev pub Kept : Policy → List ℕ → View → Type 0
Kept p grid view = (u o : ℕ) → u < view.rows → o < view.columns → cell grid view u o ≡ entry_of p (at u o)

-- two arrays have the labels of m sets and the lowest set of each label, and there are so many labels
pub record Labelled (like : ℕ → ℕ → Bool) (m : ℕ) (labels leaders : List ℕ) (count : ℕ) : Type 0 where
  pub counted : count ≡ label_count like m
  pub labels_are : (u : ℕ) → u < m → get_or labels u 0 ≡ label like u
  pub leaders_are : (l : ℕ) → l < count → get_or leaders l 0 ≡ leader like m l

-- each of so many labels has a leader among m sets, and the leader has the label
pub record Leading (m : ℕ) (labels leaders : List ℕ) (count : ℕ) : Type 0 where
  pub row : (l : ℕ) → l < count → get_or leaders l 0 < m
  pub labelled : (l : ℕ) → l < count → get_or labels (get_or leaders l 0) 0 ≡ l

-- a buffer gets the labels of the first n sets, whatever these are, and keeps the rest
abbrev pub Puts : List ℕ → ℕ → List ℕ → List ℕ → Type 0
Puts labels n before after = (f : ℕ → ℕ) → ((i : ℕ) → i < n → get_or labels i 0 ≡ f i) → after ≡ over (up_to f n) before
