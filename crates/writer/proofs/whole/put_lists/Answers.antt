-- `writer::whole::put_lists` meets its contract: each list stands after those before it, and the end line after them
-- all.
use borrow.Author.Rules.{rules}
use Rattle.writer.specs.Inner.Put.{bare_line, numbers_line, each}
use Rattle.writer.proofs.Putting.{all_always, put-long, room_next, put_next, part_room, part-put}
use Rattle.writer.proofs.whole.put_lists.Goals as goal

pub put_each-at-requires-clause-can : goal.put_each-at-requires-clause-can
put_each-at-requires-clause-can c = all_always _

pub put_each-at-requires-2-clause-can : goal.put_each-at-requires-2-clause-can
put_each-at-requires-2-clause-can c = all_always _

pub put_each-at-requires-3-clause-can : goal.put_each-at-requires-3-clause-can
put_each-at-requires-3-clause-can c = all_always _

pub put_each-at-requires-5-clause-can : goal.put_each-at-requires-5-clause-can
put_each-at-requires-5-clause-can c = all_always _

pub put-requires : goal.put-requires
unfolding bare_line numbers_line each
put-requires c = (search rules, part_room (room_next (room_next (room_next (room_next (room_next c.requires.room c.put_each-at.ensures) c.put_each-at-2.ensures) c.put_each-at-3.ensures) c.put_each-at-4.ensures) c.put_each-at-5.ensures))

pub returns : goal.returns
unfolding bare_line numbers_line each
returns c =
    let r = (room_next (room_next (room_next (room_next (room_next c.requires.room c.put_each-at.ensures) c.put_each-at-2.ensures) c.put_each-at-3.ensures) c.put_each-at-4.ensures) c.put_each-at-5.ensures) in
    put_next c.put_each-at.ensures (put_next c.put_each-at-2.ensures (put_next c.put_each-at-3.ensures (put_next c.put_each-at-4.ensures (put_next c.put_each-at-5.ensures (part-put r c.put.ensures)))))

pub shape_of-buf : goal.shape_of-buf
shape_of-buf c = put-long (returns c)
