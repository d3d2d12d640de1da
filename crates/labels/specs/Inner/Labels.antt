-- The labels of both sides as the code keeps them: for each side its labels, and the lowest set of each.
use Rattle.std.specs.Prelude.{ℕ, ◌*◌, ◌≤◌, ◌≡◌, Bool, true, List, get_or}
use Rattle.policy.specs.Policy.{Policy, sets}
use Rattle.policy.specs.Value.{policy_of}
use Rattle.policy.specs.Valid.{valid}
use Rattle.policy.specs.declared.value.PolicyValue.{PolicyValue}
use Rattle.labels.specs.Compile.{like_users, like_objects}
use Rattle.labels.specs.Inner.Grid.{grid_places, ViewOf, Kept, Labelled}
use Rattle.labels.specs.Inner.Rows.{RowsOf}
use Rattle.labels.specs.declared.classify.Classes.{Classes}
use Rattle.labels.specs.declared.grid.View.{View}
use Rattle.labels.specs.declared.rows.Rows.{Rows}

-- all sets have one label
pub record IsAlike (c : Classes) : Type 0 where
  pub one : c.count ≡ 1
  pub labels : (u : ℕ) → get_or c.labels u 0 ≡ 0
  pub leader : get_or c.leaders 0 0 ≡ 0

abbrev pub LabelledIn : (ℕ → ℕ → Bool) → ℕ → Classes → Type 0
LabelledIn like m c = Labelled like m c.labels c.leaders c.count

pub record LabelsOf (p : Policy) (us os : Classes) : Type 0 where
  pub users : LabelledIn (like_users p) (sets p.user) us
  pub objects : LabelledIn (like_objects p) (sets p.object) os

-- a valid policy is labelled: what its rows are worked out from, a grid that has its entries if they have room there, and
-- the labels
pub record IsLabelled (v : PolicyValue) (from : Rows) (grid : List ℕ) (users objects : Classes) : Type 0 where
  pub ok : valid v ≡ true
  pub user : from.user ≡ true
  pub rows : RowsOf (policy_of v) from
  pub labels : LabelsOf (policy_of v) users objects
  pub kept : (view : View) → ViewOf (policy_of v) view → view.rows * view.columns ≤ grid_places → Kept (policy_of v) grid view
