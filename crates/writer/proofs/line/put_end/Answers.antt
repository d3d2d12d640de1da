-- `writer::line::put_end` meets its contract: the line feed stands after the number.
use Rattle.writer.specs.Inner.Put.{end_line}
use Rattle.writer.proofs.Putting.{put-long, room-first, room_next, put_next}
use Rattle.writer.proofs.line.put_end.Goals as goal

pub put_digits-at-requires : goal.put_digits-at-requires
unfolding end_line
put_digits-at-requires c = room-first _ _ c.requires

pub put_byte-requires : goal.put_byte-requires
unfolding end_line
put_byte-requires c = room_next c.requires c.put_digits-at.ensures

pub returns : goal.returns
unfolding end_line
returns c = put_next c.put_digits-at.ensures c.put_byte.ensures

pub shape_of-buf : goal.shape_of-buf
shape_of-buf c = put-long (returns c)
