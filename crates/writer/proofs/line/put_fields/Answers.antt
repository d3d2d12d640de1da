-- `writer::line::put_fields` meets its contract: behind the word, the fields of the numbers before the next one are put.
use native.Mathlib.Omega.{arith}
use Rattle.writer.proofs.Putting.{put-long, room-first, room_next, put_next, run-start, run_end, run_room, run-next}
use Rattle.writer.proofs.line.put_fields.Goals as goal

pub put-at-requires : goal.put-at-requires
put-at-requires g c = room-first _ _ c.requires

pub loop-n-init : goal.loop-n-init
loop-n-init g c = run-start (room_next c.requires c.put-at.ensures)

pub put-at-requires-in-loop-n : goal.put-at-requires-in-loop-n
put-at-requires-in-loop-n g c = run_room c.loop-n.invariant 0 (omega arith)

pub loop-n-preserved : goal.loop-n-preserved
loop-n-preserved g c = run-next c.loop-n.invariant 0 (omega arith) c.put-at-in-loop-n.ensures

pub returns : goal.returns
returns g c = put_next c.put-at.ensures (run_end c.loop-n.invariant (omega arith))

pub shape_of-buf : goal.shape_of-buf
shape_of-buf g c = put-long (returns g c)
