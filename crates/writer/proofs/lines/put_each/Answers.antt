-- `writer::lines::put_each` meets its contract: the lines of the elements before the next one are put.
use native.Mathlib.Omega.{arith}
use Rattle.writer.proofs.Putting.{all-get, put-long, run-start, run_end, run_fits, run-part, run-sum, run-line}
use Rattle.writer.proofs.lines.put_each.Goals as goal

pub loop-item-init : goal.loop-item-init
loop-item-init g c = run-start c.requires.room

pub slice_bounds-put-count : goal.slice_bounds-put-count
slice_bounds-put-count g c = run_fits c.loop-item.invariant

pub slice_bounds-put-start : goal.slice_bounds-put-start
slice_bounds-put-start g c = run_fits c.loop-item.invariant

pub put-at-requires-clause-can : goal.put-at-requires-clause-can
put-at-requires-clause-can g c = rw c.item-item.is (all-get g.T.Line.writable c.item-item.result c.args.items.now c.loop-item.item-index c.loop-item-test.true c.requires.can)

pub put-at-requires-clause-room : goal.put-at-requires-clause-room
put-at-requires-clause-room g c = rw c.item-item.is (run-part c.loop-item.invariant c.item-item.result c.loop-item-test.true)

pub overflow_add-at : goal.overflow_add-at
overflow_add-at g c = omega (arith, run-sum c.loop-item.invariant c.item-item.result c.loop-item-test.true (rw c.item-item.is at c.put-at.ensures))

pub loop-item-preserved : goal.loop-item-preserved
loop-item-preserved g c = run-line c.loop-item.invariant c.item-item.result c.loop-item-test.true (rw c.item-item.is at c.put-at.ensures)

pub returns : goal.returns
returns g c = run_end c.loop-item.invariant (omega arith)

pub shape_of-buf : goal.shape_of-buf
shape_of-buf g c = put-long (returns g c)
