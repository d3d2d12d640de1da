-- `report::lines::tuple_lines` meets its contract: after each turn the lines of the tuples before the next number are
-- put, and the start is one of the action.
use Prim.Native.Nat.{◌*◌}
use mathlib.Core.Path.{◌∙◌}
use native.Mathlib.Omega.{arith}
use Rattle.formula.specs.Inner.Lane.{lanes}
use Rattle.writer.proofs.Putting.{put-long}
use Rattle.report.proofs.Going.{going_start, going_fits, going_all, going_full, going_over}
use Rattle.report.proofs.Pieces.{shl_one}
use Rattle.report.proofs.Running.{row_fits, row-less, row-again}
use Rattle.report.proofs.lines.tuple_lines.Goals as goal

pub loop-next-init : goal.loop-next-init
loop-next-init c = (going_start c.requires.2, c.of-head.ensures.0)

pub overflow_sub-buf : goal.overflow_sub-buf
overflow_sub-buf c = going_fits c.loop-next.invariant.0

pub shape_of-buf-then-buf-at-lt-ROOM : goal.shape_of-buf-then-buf-at-lt-ROOM
shape_of-buf-then-buf-at-lt-ROOM c = put-long c.loop-next.invariant.0.put

pub returns-then-buf-at-lt-ROOM : goal.returns-then-buf-at-lt-ROOM
returns-then-buf-at-lt-ROOM c = going_full c.loop-next.invariant.0 (omega (arith, c.if-buf-at-lt-ROOM.true))

pub shape_of-buf-then-end-x : goal.shape_of-buf-then-end-x
shape_of-buf-then-end-x c = put-long c.loop-next.invariant.0.put

pub returns-then-end-x : goal.returns-then-end-x
returns-then-end-x c = going_over c.loop-next.invariant.0 c.next-x.result c.next-x.ensures c.if-end-x.true

pub overflow_add-t : goal.overflow_add-t
overflow_add-t c = omega (arith, c.if-end-x.false, c.requires.1, c.args.tuples.now.marks.few)

pub overflow_cast-t : goal.overflow_cast-t
overflow_cast-t c = omega (arith, c.if-end-x.false, c.requires.1, c.args.tuples.now.marks.few)

pub user_set-requires : goal.user_set-requires
user_set-requires c = c.requires.0

pub run_length-count-requires : goal.run_length-count-requires
run_length-count-requires c = c.requires.0

pub word_from-w-requires : goal.word_from-w-requires
word_from-w-requires c = omega (arith, c.if-end-x.false, c.args.tuples.now.marks.few)

pub object_set-object-requires : goal.object_set-object-requires
object_set-object-requires c = c.requires.0

pub slice_bounds-run_lines-count : goal.slice_bounds-run_lines-count
slice_bounds-run_lines-count c = going_fits c.loop-next.invariant.0

pub slice_bounds-run_lines-start : goal.slice_bounds-run_lines-start
slice_bounds-run_lines-start c = going_fits c.loop-next.invariant.0

pub run_lines-lines-requires : goal.run_lines-lines-requires
run_lines-lines-requires c = (omega (arith, c.run_length-count.ensures.2), omega (arith, c.object_set-object.ensures, c.run_length-count.ensures.1, shl_one c.args.tuples.now.values c.requires.0))

pub overflow_add-at : goal.overflow_add-at
overflow_add-at c = omega (arith, row_fits c.args.tuples.now.action c.args.tuples.now.values (c.args.tuples.now.first * lanes) c.args.tuples.now.marks.count c.args.tuples.now.marks.words c.loop-next.invariant.0 c.next-x.result c.next-x.ensures c.if-end-x.false c.for_user-head.result _ _ _ (c.for_user-head.ensures.0 ∙ c.loop-next.invariant.1) (c.for_user-head.ensures.1 ∙ c.user_set.ensures) c.object_set-object.ensures c.word_from-w.ensures c.run_length-count.ensures c.run_lines-lines.ensures, put-long c.loop-next.invariant.0.put, c.well_formed)

pub overflow_add-next : goal.overflow_add-next
overflow_add-next c = omega (arith, c.if-end-x.false, c.run_lines-lines.ensures.high, c.run_length-count.ensures.2, c.args.tuples.now.marks.few)

pub loop-next-smaller : goal.loop-next-smaller
loop-next-smaller c = omega (arith, row-less c.args.tuples.now.action c.args.tuples.now.values (c.args.tuples.now.first * lanes) c.args.tuples.now.marks.count c.args.tuples.now.marks.words c.loop-next.invariant.0 c.next-x.result c.next-x.ensures c.if-end-x.false c.for_user-head.result _ _ _ (c.for_user-head.ensures.0 ∙ c.loop-next.invariant.1) (c.for_user-head.ensures.1 ∙ c.user_set.ensures) c.object_set-object.ensures c.word_from-w.ensures c.run_length-count.ensures c.run_lines-lines.ensures (omega (arith, c.if-buf-at-lt-ROOM.false)), c.loop-next-test.true)

pub loop-next-preserved : goal.loop-next-preserved
loop-next-preserved c = (row-again c.args.tuples.now.action c.args.tuples.now.values (c.args.tuples.now.first * lanes) c.args.tuples.now.marks.count c.args.tuples.now.marks.words c.loop-next.invariant.0 c.next-x.result c.next-x.ensures c.if-end-x.false c.for_user-head.result _ _ _ (c.for_user-head.ensures.0 ∙ c.loop-next.invariant.1) (c.for_user-head.ensures.1 ∙ c.user_set.ensures) c.object_set-object.ensures c.word_from-w.ensures c.run_length-count.ensures c.run_lines-lines.ensures (omega (arith, c.if-buf-at-lt-ROOM.false)), c.for_user-head.ensures.0 ∙ c.loop-next.invariant.1)

pub shape_of-buf : goal.shape_of-buf
shape_of-buf c = put-long c.loop-next.invariant.0.put

pub returns : goal.returns
returns c = going_all c.loop-next.invariant.0 c.loop-next-test.false
