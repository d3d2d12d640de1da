-- `writer::lines::put_each` meets its contract: the lines of the elements before the next one are put.
use Rattle.writer.proofs.Putting.{Run}
use Rattle.writer.proofs.lines.put_each.Given as goal

abbrev pub invariant-loop-item : goal.invariant-loop-item
invariant-loop-item g l = Run (g.T.Line.line l.word) l.items l.start l.initial.buf l.item-index l.buf l.at
