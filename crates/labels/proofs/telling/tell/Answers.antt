-- `labels::telling::tell` meets its contract: rows that are alike belong to user sets that nothing tells apart, and at
-- the first unlike column an action does.
use Prim.Native.Nat.{ℕ, ◌≤◌, ◌<◌}
use mathlib.Core.Path.{◌≡◌}
use mathlib.Core.Bool.{true, not}
use native.Mathlib.Nat.{lt_of_lt_of_le}
use native.Mathlib.Omega.{arith}
use Rattle.policy.specs.Policy.{Policy, sets}
use Rattle.policy.specs.Value.{policy_of}
use Rattle.policy.specs.Limits.{most_sets}
use Rattle.formula.specs.Inner.Lane.{side_at}
use Rattle.labels.specs.Rows.{first_unlike}
use Rattle.labels.specs.Inner.Rows.{RowsOf}
use Rattle.labels.specs.declared.rows.Rows.{Rows}
use Rattle.labels.proofs.Alike.{unlike-below}
use Rattle.labels.proofs.Grids.{others-few}
use Rattle.labels.proofs.Told.{rows-tell_alike, rows-tell_apart}
use Rattle.labels.proofs.telling.tell.Goals as goal

-- there are few columns
few : {from : Rows} {n : ℕ} → from.user ≡ true → (p : Policy) → RowsOf p from → n ≡ sets p.object → n ≤ most_sets
few {from} {n} user p x h =
    let b : n ≤ sets (side_at (not from.user) p) = rw user (omega (arith, h)) in
    others-few p from x n b

column-below : {from : Rows} {n r : ℕ} (f g : ℕ → ℕ) → from.user ≡ true → (p : Policy) → RowsOf p from → n ≡ sets p.object
    → r ≡ first_unlike f g n → (r ≡ n → ⊥) → r < most_sets
column-below f g user p x h q e = lt_of_lt_of_le (unlike-below f g _ _ q e) (few user p x h)

pub put_row-requires : goal.put_row-requires
put_row-requires c =
    let h = c.requires in ((h.1.0, h.1.1, rw h.0 (omega (arith, h.1.2))), h.2)

pub put_row-requires-2 : goal.put_row-requires-2
put_row-requires-2 c =
    let h = c.requires in ((h.1.0, h.1.1, rw h.0 (omega (arith, h.1.2))), h.3)

pub first_unlike-o-requires : goal.first_unlike-o-requires
first_unlike-o-requires c = let h = c.requires in few h.0 h.1.0 h.1.1 h.1.2

pub returns-then-o-n : goal.returns-then-o-n
returns-then-o-n c = λ v e s q.
    let h = c.requires.0 in
    let b : c.args.n ≤ sets (side_at (not c.args.from.now.user) (policy_of v)) = rw h (omega (arith, q)) in
    (e, rows-tell_alike (policy_of v) _ _ _ c.put_row.new.row c.put_row-2.new.row q (λ o l. rw h at (c.put_row.ensures (policy_of v) o s b l)) (λ o l. rw h at (c.put_row-2.ensures (policy_of v) o s b l)) _ c.first_unlike-o.ensures c.if-o-n.true)

pub offset_bounds-row-o : goal.offset_bounds-row-o
offset_bounds-row-o c = let h = c.requires in omega (arith, column-below _ _ h.0 h.1.0 h.1.1 h.1.2 c.first_unlike-o.ensures c.if-o-n.false)

pub bounds-row-o : goal.bounds-row-o
bounds-row-o c = let h = c.requires in column-below _ _ h.0 h.1.0 h.1.1 h.1.2 c.first_unlike-o.ensures c.if-o-n.false

pub offset_bounds-other-o : goal.offset_bounds-other-o
offset_bounds-other-o c = let h = c.requires in omega (arith, column-below _ _ h.0 h.1.0 h.1.1 h.1.2 c.first_unlike-o.ensures c.if-o-n.false)

pub bounds-other-o : goal.bounds-other-o
bounds-other-o c = let h = c.requires in column-below _ _ h.0 h.1.0 h.1.1 h.1.2 c.first_unlike-o.ensures c.if-o-n.false

pub overflow_cast-result : goal.overflow_cast-result
overflow_cast-result c = let h = c.requires in omega (arith, column-below _ _ h.0 h.1.0 h.1.1 h.1.2 c.first_unlike-o.ensures c.if-o-n.false)

pub returns : goal.returns
returns c = λ v e s q.
    let h = c.requires.0 in
    let b : c.args.n ≤ sets (side_at (not c.args.from.now.user) (policy_of v)) = rw h (omega (arith, q)) in (
      e,
      rows-tell_apart (policy_of v) _ _ _ c.put_row.new.row c.put_row-2.new.row q (λ o l. rw h at (c.put_row.ensures (policy_of v) o s b l)) (λ o l. rw h at (c.put_row-2.ensures (policy_of v) o s b l)) _ c.first_unlike-o.ensures
          _ c.first_action-action.ensures c.if-o-n.false,
    )
