-- `labels::buffers::store` meets its contract: a buffer that is too short is refused before any is written, and the
-- three writers leave the labels and the table.
use mathlib.Core.Path.{sym, ◌∙◌}
use native.Mathlib.Omega.{arith}
use Rattle.std.proofs.Common.{◌≤◌, length, map}
use Rattle.std.proofs.lemmas.List.{length-map, length-take-le}
use Rattle.policy.specs.Limits.{bits}
use Rattle.policy.specs.Value.{policy_of}
use Rattle.labels.specs.Compile.{lent}
use Rattle.labels.proofs.Compiling.{like_users-equivalence, like_objects-equivalence}
use Rattle.labels.proofs.Storing.{counts-are, actions-few, sets-few, users-few, objects-few, none-short, refused-short, stored-all}
use Rattle.labels.proofs.Putting.{first-puts, first-fit}
use Rattle.labels.proofs.Turn.{labelled-fit, labelled-leads}
use Rattle.labels.proofs.buffers.store.Goals as goal

pub of-view-requires : goal.of-view-requires
of-view-requires g c = (_, c.requires.1.rows.sides)

pub of-counts-requires : goal.of-counts-requires
of-counts-requires g c =
    let s = c.requires.1 in
    let w = c.of-view.ensures _ s.rows.sides in
    (users-few s.labels w, objects-few s.labels w)

pub returns-then-too_short : goal.returns-then-too_short
returns-then-too_short g c = λ v s own.
    let w = c.of-view.ensures _ s.rows.sides in
    let n = counts-are s.labels in
    let q = c.of-counts.ensures in
    refused-short v _ s.ok own _ _ _ (sym (c.too_short.ensures _ w (q.0 ∙ n.0) (q.1 ∙ n.1)) ∙ c.if-too_short.true)

pub put_labels-requires : goal.put_labels-requires
put_labels-requires g c =
    let a = c.args in
    let b = lent (bits g.L.Stored.BITS g.E.Stored.BITS) (map g.L.Stored.number a.user_labels.now) (map g.L.Stored.number a.object_labels.now) (map g.E.Stored.number a.table.now) in
    let s = c.requires.1 in
    let w = c.of-view.ensures _ s.rows.sides in
    let L = s.labels in
    let n = counts-are L in
    let q = c.of-counts.ensures in
    let room = none-short _ b (sym (c.too_short.ensures _ w (q.0 ∙ n.0) (q.1 ∙ n.1)) ∙ c.if-too_short.false) in
    let few = sets-few _ s.ok _ c.requires.2 in
    let long : c.of-view.result.rows ≤ length a.users.now.labels = omega (arith, w.few-users) in (
      rw (length-take-le _ _ long, w.users) (simp length-map at room.0),
      first-fit _ _ long _ (rw w.users (labelled-fit _ (like_users-equivalence _ _) L.users few.0)),
    )

pub put_labels-requires-2 : goal.put_labels-requires-2
put_labels-requires-2 g c =
    let a = c.args in
    let b = lent (bits g.L.Stored.BITS g.E.Stored.BITS) (map g.L.Stored.number a.user_labels.now) (map g.L.Stored.number a.object_labels.now) (map g.E.Stored.number a.table.now) in
    let s = c.requires.1 in
    let w = c.of-view.ensures _ s.rows.sides in
    let L = s.labels in
    let n = counts-are L in
    let q = c.of-counts.ensures in
    let room = none-short _ b (sym (c.too_short.ensures _ w (q.0 ∙ n.0) (q.1 ∙ n.1)) ∙ c.if-too_short.false) in
    let few = sets-few _ s.ok _ c.requires.2 in
    let long : c.of-view.result.columns ≤ length a.objects.now.labels = omega (arith, w.few-objects) in (
      rw (length-take-le _ _ long, w.objects) (simp length-map at room.1),
      first-fit _ _ long _ (rw w.objects (labelled-fit _ (like_objects-equivalence _ _) L.objects few.1)),
    )

pub put_table-requires : goal.put_table-requires
unfolding policy_of
put_table-requires g c =
    let a = c.args in
    let b = lent (bits g.L.Stored.BITS g.E.Stored.BITS) (map g.L.Stored.number a.user_labels.now) (map g.L.Stored.number a.object_labels.now) (map g.E.Stored.number a.table.now) in
    let s = c.requires.1 in
    let w = c.of-view.ensures _ s.rows.sides in
    let L = s.labels in
    let n = counts-are L in
    let q = c.of-counts.ensures in
    let room = none-short _ b (sym (c.too_short.ensures _ w (q.0 ∙ n.0) (q.1 ∙ n.1)) ∙ c.if-too_short.false) in
    record {
      user_value = (s.user, (_, s.rows, w, s.kept _ w), users-few L w, objects-few L w, rw (n.0, n.1) (simp length-map at room.2), rw s.rows.actions (actions-few _ _ c.requires.2));
      leading = (rw w.users (labelled-leads (like_users-equivalence _ _) L.users), rw w.objects (labelled-leads (like_objects-equivalence _ _) L.objects));
    }

pub returns : goal.returns
returns g c = λ v s own.
    let a = c.args in
    let w = c.of-view.ensures _ s.rows.sides in
    let L = s.labels in
    let n = counts-are L in
    let q = c.of-counts.ensures in
    stored-all v _ s.ok own _ _ _ w L _ q _ _ _ (sym (c.too_short.ensures _ w (q.0 ∙ n.0) (q.1 ∙ n.1)) ∙ c.if-too_short.false)
    (first-puts a.users.now.labels c.of-view.result.rows (omega (arith, w.few-users)) _ _ c.put_labels.ensures)
    (first-puts a.objects.now.labels c.of-view.result.columns (omega (arith, w.few-objects)) _ _ c.put_labels-2.ensures)
    (c.put_table.ensures _ s.rows w (s.kept _ w))
