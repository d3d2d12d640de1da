-- `labels::buffers::too_short` meets its contract: the first buffer that is too short tells, and else the table.
use Rattle.std.proofs.Common.{◌<◌, ◌∙◌, ⊎_elim, length, arith}
use Rattle.std.proofs.lemmas.List.{length-map}
use borrow.Author.Tests.{lt-ltb, le-ltb}
use Rattle.labels.proofs.Storing.{too_short-by_length}
use Rattle.labels.proofs.buffers.too_short.Goals.{then-users-view, else-users-view}
use Rattle.labels.proofs.buffers.too_short.Goals as goal

pub returns-then-objects-view : goal.returns-then-objects-view
returns-then-objects-view g c = λ p v nu no.
    rw (too_short-by_length, ← v.users, ← v.objects, length-map, length-map, length-map)
    (elim c.if-users-view.branch [
      | then-users-view w ↦ w.t-7-is ∙ rw (lt-ltb _ _ w.if-users-view.true)
      | else-users-view w ↦
          let l : length c.args.objects.now < c.args.view.columns = ⊎_elim (λ a. absurd (omega (arith, a, w.if-users-view.false))) (λ b. b.1) c.if-objects-view.either in
          w.t-7-is ∙ rw (le-ltb _ _ w.if-users-view.false, lt-ltb _ _ l)
    ])

pub returns-else-objects-view : goal.returns-else-objects-view
returns-else-objects-view g c = λ p v nu no.
    rw (too_short-by_length, ← v.users, ← v.objects, ← nu, ← no, length-map, length-map, length-map, le-ltb _ _ c.if-objects-view.false.0, le-ltb _ _ c.if-objects-view.false.1)
