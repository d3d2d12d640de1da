-- `writer::line::put_fields` meets its contract: behind the word, the fields of the numbers before the next one are put.
use Rattle.writer.specs.Inner.Put.{number_field}
use Rattle.writer.proofs.Putting.{Run}
use Rattle.writer.proofs.line.put_fields.Given as goal

abbrev pub invariant-loop-n : goal.invariant-loop-n
invariant-loop-n g l = Run number_field l.numbers l.initial.at l.initial.buf l.n-index l.buf l.at
