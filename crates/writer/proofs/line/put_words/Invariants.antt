-- `writer::line::put_words` meets its contract: the words before the next one are put.
use Rattle.writer.specs.Inner.Put.{word_field}
use Rattle.writer.proofs.Putting.{Run}
use Rattle.writer.proofs.line.put_words.Given as goal

abbrev pub invariant-loop-n : goal.invariant-loop-n
invariant-loop-n l = Run word_field l.numbers l.start l.initial.buf l.n-index l.buf l.at
