-- `writer::line::put_start` meets its contract: the comma stands after the numbers.
use borrow.Author.Rules.{rules}
use Rattle.writer.specs.Inner.Put.{start_line}
use Rattle.writer.proofs.Putting.{put-long, room-first, room_next, put_next}
use Rattle.writer.proofs.line.put_start.Goals as goal

pub put_fields-at-requires : goal.put_fields-at-requires
unfolding start_line
put_fields-at-requires g c = (search rules, room-first _ _ c.requires)

pub put_byte-requires : goal.put_byte-requires
unfolding start_line
put_byte-requires g c = room_next c.requires c.put_fields-at.ensures

pub returns : goal.returns
unfolding start_line
returns g c = put_next c.put_fields-at.ensures c.put_byte.ensures

pub shape_of-buf : goal.shape_of-buf
shape_of-buf g c = put-long (returns g c)
