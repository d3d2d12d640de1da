-- Laws of grids: where the entries lie, seen from either side, and a grid that is filled place by place.
use Prim.Native.Nat.{ℕ, min, ◌+◌, ◌*◌, ◌/◌, ◌%◌, ◌≤◌, ◌<◌}
use mathlib.Core.Path.{◌≡◌, ap₂, ◌∙◌}
use mathlib.Core.Bool.{Bool, true, false, not}
use mathlib.Core.List.{List}
use mathlib.Core.Logic.{⊎_elim}
use native.Mathlib.Nat.{le_refl, le_trans, mul-le-mul, mul-one}
use native.Mathlib.Omega.{arith}
use lib.Arith.{digits_lt, digits_div, digits_mod}
use lib.ListN.{length, get_or}
use lib.Pow.{pow_mono}
use Rattle.std.proofs.lemmas.Grind.{div_ceil_times}
use Rattle.policy.specs.Policy.{Policy, total, sets}
use Rattle.policy.specs.Limits.{most_values, most_sets}
use Rattle.formula.specs.Inner.Lane.{lanes, AttributesOf, side_at}
use Rattle.formula.specs.Inner.Source.{most_blocks}
use Rattle.formula.specs.declared.attributes.Attributes.{Attributes}
use Rattle.formula.proofs.Numbering.{blocks-cover, side-blocks}
use Rattle.labels.specs.Inner.Rows.{RowsOf, entry_in}
use Rattle.labels.specs.Inner.Grid.{grid_places, turned_view, Inside, ViewOf}
use Rattle.labels.specs.declared.rows.Rows.{Rows}
use Rattle.labels.specs.declared.grid.View.{View}

-- where row u and column o lie in a grid that has room for all of them
module _ {p : Policy} {view : View} (v : ViewOf p view) where
  pub row-place : (u o : ℕ) → u * view.down + o * view.along ≡ u * view.columns + o
  row-place u o = rw (v.down, v.along, mul-one o)

  pub view_inside : view.rows * view.columns ≤ grid_places → Inside view
  view_inside room =
      record {
        few-rows = v.few-users;
        few-columns = v.few-objects;
        inside = λ u o hu ho. rw (row-place u o) (omega (arith, digits_lt hu ho));
      }

pub turned-inside : (view : View) → Inside view → Inside (turned_view view)
turned-inside view i =
    record { few-rows = i.few-columns; few-columns = i.few-rows; inside = λ o u ho hu. omega (arith, i.inside u o hu ho) }

-- a side has at most the most sets
side-few : {p : Policy} {a : Attributes} → AttributesOf p a → (user : Bool) → total (side_at user p) ≤ most_values
side-few x true = x.user.most
side-few x false = x.object.most

pub others-few : (p : Policy) (from : Rows) → RowsOf p from → (n : ℕ) → n ≤ sets (side_at (not from.user) p) → n ≤ most_sets
others-few p from x n h = le_trans h (pow_mono (side-few x.sides (not from.user)))

-- the blocks of the other side are few, and have room for its sets
module _ (p : Policy) (from : Rows) (x : RowsOf p from) where
  pub row-blocks : from.blocks ≤ most_blocks
  row-blocks = rw x.blocks (side-blocks _ (side-few x.sides (not from.user)))

  pub row-covers : (n : ℕ) → n ≤ sets (side_at (not from.user) p) → n ≤ from.blocks * lanes
  row-covers n h =
      rw x.blocks (⊎_elim (λ t. omega (arith, t.0, t.1)) (λ e. omega (arith, e)) (blocks-cover (total (side_at (not from.user) p))))

-- ---- filling

-- of rows of n places that cover so many, one that is begun begins before the last place
pub begun : (q n places : ℕ) → 0 < n → q < places / n + min 1 (places % n) → q * n < places
begun q n places some h =
    let next : (q + 1) * n ≤ (places / n + min 1 (places % n)) * n = mul-le-mul (omega (arith, h)) (le_refl n) in
    omega (arith, next, (div_ceil_times places n some).1)

-- the first k places have the entries of their sets, in rows of n
pub record Entered (from : Rows) (chosen : List ℕ) (n k : ℕ) (grid : List ℕ) : Type 0 where
  pub long : length grid ≡ grid_places
  pub entries : (p : Policy) → RowsOf p from → n ≤ sets (side_at (not from.user) p) → (i : ℕ) → i < k → get_or grid i 0 ≡ entry_in p from.user chosen (i % n) (i / n)

module _ {from : Rows} {chosen : List ℕ} {n : ℕ} {grid : List ℕ} where
  pub entered_count : {k m : ℕ} → Entered from chosen n k grid → k ≡ m → Entered from chosen n m grid
  entered_count F q = rw (← q) F

  -- so an entry of a full row is there
  pub entered_at : {k : ℕ} → Entered from chosen n k grid → (p : Policy) → RowsOf p from → n ≤ sets (side_at (not from.user) p)
      → (i o : ℕ) → o < n → i * n + o < k → get_or grid (i * n + o) 0 ≡ entry_in p from.user chosen o i
  entered_at F p rows few i o h l =
      F.entries p rows few (i * n + o) l ∙ ap₂ (entry_in p from.user chosen) (digits_mod i h) (digits_div i h)
