-- `writer::line::put_formula` meets its contract: the words and the line feed stand after the action.
use borrow.Author.Rules.{rules}
use Rattle.writer.specs.Inner.Put.{formula_line}
use Rattle.writer.proofs.Putting.{put-long, room-first, room_next, put_next}
use Rattle.writer.proofs.line.put_formula.Goals as goal

pub put_fields-at-requires : goal.put_fields-at-requires
unfolding formula_line
put_fields-at-requires c = (search rules, room-first _ _ c.requires.room)

pub put_words-at-requires-clause-room : goal.put_words-at-requires-clause-room
unfolding formula_line
put_words-at-requires-clause-room c = room-first _ _ (room_next c.requires.room c.put_fields-at.ensures)

pub put_byte-requires : goal.put_byte-requires
unfolding formula_line
put_byte-requires c = room_next (room_next c.requires.room c.put_fields-at.ensures) c.put_words-at.ensures

pub returns : goal.returns
unfolding formula_line
returns c = put_next c.put_fields-at.ensures (put_next c.put_words-at.ensures c.put_byte.ensures)

pub shape_of-buf : goal.shape_of-buf
shape_of-buf c = put-long (returns c)
