-- `labels::buffers::put_table` meets its contract: a turn of the inner loop fills one place, one of the outer a row.
use Prim.Native.Nat.{ℕ, ◌+◌, ◌*◌, ◌-◌, ◌/◌, ◌%◌, ◌≤◌}
use mathlib.Core.List.{List}
use lib.ListN.{get_or}
use Rattle.std.proofs.Common.{map}
use Rattle.basis.proofs.Filled.{Filled, Further}
use Rattle.policy.specs.Policy.{Policy}
use Rattle.formula.specs.Truth.{at}
use Rattle.labels.specs.Compile.{entry_of}
use Rattle.labels.specs.Inner.Grid.{grid_places, ViewOf, Kept}
use Rattle.labels.specs.Inner.Rows.{RowsOf}
use Rattle.labels.specs.declared.grid.View.{View}
use Rattle.labels.specs.declared.rows.Rows.{Rows}
use Rattle.labels.proofs.buffers.put_table.Given as goal

-- the entry at a place of the table
abbrev pub at_place : Policy → List ℕ → List ℕ → ℕ → ℕ → ℕ
at_place p users objects n i = entry_of p (at (get_or users (i / n) 0) (get_or objects (i % n) 0))

-- a policy whose rows these are
pub record Of (p : Policy) (from : Rows) (view : View) (grid : List ℕ) : Type 0 where
  pub rows : RowsOf p from
  pub seen : ViewOf p view
  pub kept : view.rows * view.columns ≤ grid_places → Kept p grid view

abbrev pub invariant-loop-l : goal.invariant-loop-l
invariant-loop-l g l =
    (l.l ≤ l.no) × ((p : Policy) → Of p l.from l.view l.grid → Further (at_place p l.users.leaders l.objects.leaders l.no) (l.k * l.no) (l.k * l.no + l.l) (map g.E.Stored.number l.initial.table) (map g.E.Stored.number l.table))

abbrev pub decreases-loop-l : goal.decreases-loop-l
decreases-loop-l g l = l.no - l.l

abbrev pub invariant-loop-k : goal.invariant-loop-k
invariant-loop-k g l =
    (l.k ≤ l.nu) × ((p : Policy) → Of p l.from l.view l.grid → Filled (at_place p l.users.leaders l.objects.leaders l.no) (l.k * l.no) (map g.E.Stored.number l.initial.table) (map g.E.Stored.number l.table))

abbrev pub decreases-loop-k : goal.decreases-loop-k
decreases-loop-k g l = l.nu - l.k
