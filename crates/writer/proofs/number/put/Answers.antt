-- `writer::number::put` meets its contract: the digits stand after the comma.
use Rattle.text.specs.Number.{decimal}
use Rattle.writer.specs.Inner.Put.{field, lone}
use Rattle.writer.proofs.Putting.{put-long, room-first, room_next, put_next}
use Rattle.writer.proofs.number.put.Goals as goal

pub put_byte-at-requires : goal.put_byte-at-requires
unfolding field
put_byte-at-requires c = room-first lone (decimal _) c.requires

pub put_digits-requires : goal.put_digits-requires
unfolding field
put_digits-requires c = room_next {s = lone} c.requires c.put_byte-at.ensures

pub returns : goal.returns
unfolding field
returns c = put_next {s = lone} c.put_byte-at.ensures c.put_digits.ensures

pub shape_of-buf : goal.shape_of-buf
shape_of-buf c = put-long (returns c)
