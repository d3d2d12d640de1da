-- `writer::whole::put_sides` meets its contract: each list stands after those before it.
use Rattle.writer.proofs.Putting.{all_always, put-long, put_next}
use Rattle.writer.proofs.whole.put_sides.Goals as goal

pub put_each-at-requires-clause-can : goal.put_each-at-requires-clause-can
put_each-at-requires-clause-can c = all_always _

pub put_each-at-requires-2-clause-can : goal.put_each-at-requires-2-clause-can
put_each-at-requires-2-clause-can c = all_always _

pub put_each-at-requires-3-clause-can : goal.put_each-at-requires-3-clause-can
put_each-at-requires-3-clause-can c = all_always _

pub put_each-requires-clause-can : goal.put_each-requires-clause-can
put_each-requires-clause-can c = all_always _

pub returns : goal.returns
returns c = put_next c.put-at.ensures (put_next c.put_each-at.ensures (put_next c.put_each-at-2.ensures (put_next c.put_each-at-3.ensures c.put_each.ensures)))

pub shape_of-buf : goal.shape_of-buf
shape_of-buf c = put-long (returns c)
