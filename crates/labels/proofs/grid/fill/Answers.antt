-- `labels::grid::fill` meets its contract: each turn puts a row.
use Prim.Native.Nat.{ℕ, ◌+◌, ◌*◌, ◌/◌, ◌%◌, ◌≤◌, ◌<◌}
use mathlib.Core.Path.{◌≡◌, sym, ap, ap₂, ◌∙◌}
use native.Mathlib.Omega.{arith}
use native.Mathlib.Nat.{mul-le-mul, le_refl}
use lib.Arith.{digits_lt, digits_div, digits_mod}
use lib.ListN.{length}
use Rattle.labels.specs.Inner.Grid.{grid_places}
use Rattle.labels.proofs.Grids.{entered_count, entered_at}
use Rattle.std.proofs.lemmas.List.{length-take-le, get_or-take}
use Rattle.labels.specs.Inner.Rows.{entry_in}
use Rattle.labels.proofs.grid.fill.Goals as goal

pub loop-i-init : goal.loop-i-init
loop-i-init c =
    record { long = c.told-grid; entries = λ p rows few i h. absurd (omega arith) }

pub put_row-requires : goal.put_row-requires
put_row-requires c = let s = c.requires in (s.0, s.3 _ c.loop-i-test.true)

-- the row has room in the grid
room : (i count n : ℕ) → i < count → count * n ≤ grid_places → i * n + n ≤ grid_places
room i count n h few = omega (arith, mul-le-mul h (le_refl n), few)

pub overflow_mul-i : goal.overflow_mul-i
overflow_mul-i c = omega (arith, room c.loop-i.i (length c.args.chosen.now) c.args.n c.loop-i-test.true c.requires.2)

pub put-requires : goal.put-requires
put-requires c =
    let a = c.args in
    let q = length-take-le a.n c.put_row.new.row (omega (arith, c.put_row.array_long, c.requires.1)) in
    omega (arith, q, room c.loop-i.i (length a.chosen.now) a.n c.loop-i-test.true c.requires.2, c.loop-i.invariant.long)

pub loop-i-preserved : goal.loop-i-preserved
loop-i-preserved c =
    let a = c.args in
    let i = c.loop-i.i in
    let F = c.loop-i.invariant in
    let q = length-take-le a.n c.put_row.new.row (omega (arith, c.put_row.array_long, c.requires.1)) in
    record {
      long = c.put.ensures.0 ∙ F.long;
      entries = λ p rows few j h.
          c.put.ensures.1 (λ x. entry_in p a.from.now.user a.chosen.now (x % a.n) (x / a.n)) (F.entries p rows few)
          (λ k b.
          let l : k < a.n = omega (arith, q) in
          get_or-take a.n c.put_row.new.row k 0 l ∙ c.put_row.ensures p k rows few l
          ∙ sym (ap₂ (entry_in p a.from.now.user a.chosen.now) (digits_mod i l) (digits_div i l)))
          j (omega (arith, q));
    }

pub returns : goal.returns
returns c = λ p rows few i o hi ho.
    let q : c.loop-i.i ≡ length c.args.chosen.now = omega arith in
    entered_at (entered_count c.loop-i.invariant (ap (λ (x : ℕ). x * c.args.n) q)) p rows few i o ho (digits_lt hi ho)
