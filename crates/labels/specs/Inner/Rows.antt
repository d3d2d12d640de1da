-- What the rows of a side are worked out from, and what is looked for in two entries.
use Rattle.std.specs.Prelude.{ℕ, ◌<◌, ◌≡◌, Bool, false, not, List, length, get_or}
use Rattle.basis.specs.Numbers.{first, agree}
use Rattle.sets.specs.Set.{has, set_of}
use Rattle.policy.specs.Limits.{actions, most_actions}
use Rattle.policy.specs.Policy.{Policy, total}
use Rattle.policy.specs.Value.{side_of}
use Rattle.formula.specs.Truth.{at}
use Rattle.formula.specs.Inner.Fits.{SideFits}
use Rattle.formula.specs.Inner.Grant.{GrantsOf}
use Rattle.formula.specs.Inner.Group.{grouped}
use Rattle.formula.specs.Inner.Lane.{lanes, AttributesOf, Stands, side_at, grown_by, beside}
use Rattle.formula.specs.Inner.Source.{blocks_of, side_vectors, Numbered}
use Rattle.labels.specs.Compile.{entry_of}
use Rattle.labels.specs.declared.rows.Rows.{Rows}

pub record RowsOf (p : Policy) (x : Rows) : Type 0 where
  pub sides : AttributesOf p x.sides
  pub side : side_at x.user p ≡ side_of x.side
  pub fits : SideFits x.side
  pub other : side_at (not x.user) p ≡ side_of x.other
  pub other_fits : SideFits x.other
  pub blocks : x.blocks ≡ blocks_of (total (side_at (not x.user) p))
  pub long : length x.others ≡ side_vectors
  pub others : Numbered (not x.user) (side_at (not x.user) p) (total (side_at (not x.user) p)) x.others
  pub grants : GrantsOf p x.grants
  pub actions : x.actions ≡ actions p.form

-- lane k of two sides' vectors stands for a set of the one and a set of the other
pub record InLanes (p : Policy) (user : Bool) (fixed others : ℕ → ℕ) (k s t : ℕ) : Type 0 where
  pub lane : k < lanes
  pub here : Stands (grown_by user (side_at user p).lines) fixed k s
  pub there : Stands (grown_by (not user) (side_at (not user) p).lines) others k t

-- the entry of a set at the i-th of some sets of the other side, which the rows are of
abbrev pub entry_in : Policy → Bool → List ℕ → ℕ → ℕ → ℕ
entry_in p user sets t i = entry_of p (beside user (get_or sets i 0) t)

-- the entry of lane k, from the numbers of all actions, where there are n
abbrev pub lane_entry : (ℕ → ℕ) → ℕ → ℕ → ℕ
lane_entry granted n k = set_of (λ a. has (granted a) k) (grouped n)

-- unless it is kept elsewhere, the row of user set u stands here, at n object sets
abbrev pub RowStands : Policy → Bool → List ℕ → ℕ → ℕ → Type 0
RowStands p kept row u n = kept ≡ false → (o : ℕ) → o < n → get_or row o 0 ≡ entry_of p (at u o)

-- the entry in column o of a row
abbrev pub entry_at : List ℕ → ℕ → ℕ
entry_at row o = get_or row o 0

-- the first action that one of two entries has and the other lacks
unfoldable pub first_action : ℕ → ℕ → ℕ
first_action x y = first (λ a. not (agree (has x a) (has y a))) most_actions
