-- `runner::run` meets its contract: before place i the board and the answers are those of the first i items.
use mathlib.Core.Path.{refl}
use native.Mathlib.Omega.{arith}
use mathlib.Core.List.{map}
use Rattle.policy.specs.Limits.{bits}
use Rattle.labels.specs.Compile.{lent as lent_as}
use Rattle.board.specs.Board.{Labels, labels_of, out_of, board_step}
use Rattle.runner.specs.Calls.{item_of, items_in}
use Rattle.runner.proofs.Outcome.{run-refused, run-answered}
use Rattle.runner.proofs.Weaving.{reached-none, reached-long, reached-more}
use Rattle.runner.proofs.run.Goals as goal

pub returns-then-answers-n : goal.returns-then-answers-n
returns-then-answers-n g c =
    let a = c.args in
    let l : Labels = labels_of a.lent.counts (lent_as (bits g.L.Stored.BITS g.E.Stored.BITS) (map g.L.Stored.number a.lent.users.now) (map g.L.Stored.number a.lent.objects.now) (map g.E.Stored.number a.lent.table.now)) in
    run-refused a.policy l a.calls.now a.answers.now c.fresh-board.result c.fresh-board.ensures
    (let n = c.count_of-n.ensures a.calls.now refl in omega arith)

pub loop-i-init : goal.loop-i-init
loop-i-init g c =
    let a = c.args in
    let l : Labels = labels_of a.lent.counts (lent_as (bits g.L.Stored.BITS g.E.Stored.BITS) (map g.L.Stored.number a.lent.users.now) (map g.L.Stored.number a.lent.objects.now) (map g.E.Stored.number a.lent.table.now)) in (
      c.count_of-n.ensures a.calls.now refl,
      omega arith,
      reached-none (board_step a.policy l) (items_in a.calls.now) c.fresh-board.result a.answers.now,
    )

pub bounds-answers-i : goal.bounds-answers-i
bounds-answers-i g c =
    let a = c.args in
    let i = c.loop-i.invariant in
    let l : Labels = labels_of a.lent.counts (lent_as (bits g.L.Stored.BITS g.E.Stored.BITS) (map g.L.Stored.number a.lent.users.now) (map g.L.Stored.number a.lent.objects.now) (map g.E.Stored.number a.lent.table.now)) in
    let k = reached-long (board_step a.policy l) (items_in a.calls.now) c.fresh-board.result a.answers.now c.loop-i.i c.loop-i.board c.loop-i.answers i.2
    (rw (← i.0) i.1) in
    omega (arith, k)

pub loop-i-preserved : goal.loop-i-preserved
loop-i-preserved g c =
    let a = c.args in
    let i = c.loop-i.invariant in
    let l : Labels = labels_of a.lent.counts (lent_as (bits g.L.Stored.BITS g.E.Stored.BITS) (map g.L.Stored.number a.lent.users.now) (map g.L.Stored.number a.lent.objects.now) (map g.E.Stored.number a.lent.table.now)) in (
      i.0,
      i.1,
      reached-more (board_step a.policy l) (items_in a.calls.now)
          c.fresh-board.result a.answers.now c.loop-i.i c.loop-i.board c.loop-i.answers i.2
          (rw (← i.0) c.loop-i-test.true) (rw (← i.0) i.1)
          (item_of c.item_at.result) c.item_at.ensures
          (out_of c.answer-step.result) c.answer-step.ensures
          c.byte_of.result c.byte_of.ensures,
    )

pub shape_of-answers : goal.shape_of-answers
shape_of-answers g c =
    let a = c.args in
    let i = c.loop-i.invariant in
    let l : Labels = labels_of a.lent.counts (lent_as (bits g.L.Stored.BITS g.E.Stored.BITS) (map g.L.Stored.number a.lent.users.now) (map g.L.Stored.number a.lent.objects.now) (map g.E.Stored.number a.lent.table.now)) in
    reached-long (board_step a.policy l) (items_in a.calls.now) c.fresh-board.result a.answers.now c.loop-i.i c.loop-i.board c.loop-i.answers i.2
    (rw (← i.0) i.1)

pub returns : goal.returns
returns g c =
    let a = c.args in
    let i = c.loop-i.invariant in
    let l : Labels = labels_of a.lent.counts (lent_as (bits g.L.Stored.BITS g.E.Stored.BITS) (map g.L.Stored.number a.lent.users.now) (map g.L.Stored.number a.lent.objects.now) (map g.E.Stored.number a.lent.table.now)) in
    run-answered a.policy l a.calls.now a.answers.now c.loop-i.board
    (rw (← i.0) i.1) c.fresh-board.result c.fresh-board.ensures c.loop-i.i c.loop-i.answers
    i.2 (rw (← i.0) c.loop-i-test.false) _ i.0
