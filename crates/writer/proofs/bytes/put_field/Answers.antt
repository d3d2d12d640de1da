-- `writer::bytes::put_field` meets its contract: the bytes stand after the comma.
use Rattle.writer.specs.Inner.Put.{field, lone}
use Rattle.writer.proofs.Putting.{put-long, room-first, room_next, put_next}
use Rattle.writer.proofs.bytes.put_field.Goals as goal

pub put_byte-at-requires : goal.put_byte-at-requires
unfolding field
put_byte-at-requires c = room-first lone _ c.requires

pub put-requires : goal.put-requires
unfolding field
put-requires c = room_next {s = lone} c.requires c.put_byte-at.ensures

pub returns : goal.returns
unfolding field
returns c = put_next {s = lone} c.put_byte-at.ensures c.put.ensures

pub shape_of-buf : goal.shape_of-buf
shape_of-buf c = put-long (returns c)
