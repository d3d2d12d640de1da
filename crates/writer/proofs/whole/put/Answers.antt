-- `writer::whole::put` meets its contract: the registers, the conflicts, the rules and the pairs stand after the sides.
use Rattle.writer.proofs.Putting.{put-long, room-first, room_next, put_next}
use Rattle.writer.proofs.Texts.{text-is}
use Rattle.writer.proofs.whole.put.Goals as goal

pub put_sides-at-requires-clause-room : goal.put_sides-at-requires-clause-room
put_sides-at-requires-clause-room c = room-first _ _ (rw (text-is c.args.v.now) at c.requires.room)

pub put_lists-requires-clause-room : goal.put_lists-requires-clause-room
put_lists-requires-clause-room c = room_next (rw (text-is c.args.v.now) at c.requires.room) c.put_sides-at.ensures

pub returns : goal.returns
returns c = rw (text-is c.args.v.now) (put_next c.put_sides-at.ensures c.put_lists.ensures)

pub shape_of-buf : goal.shape_of-buf
shape_of-buf c = put-long (returns c)
