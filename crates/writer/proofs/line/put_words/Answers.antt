-- `writer::line::put_words` meets its contract: the words before the next one are put.
use native.Mathlib.Omega.{arith}
use Rattle.words.specs.Word.{numbered}
use Rattle.words.specs.Inner.{in_digits}
use Rattle.writer.proofs.Putting.{all-get, put-long, run-start, run_end, run_room, run-next}
use Rattle.writer.proofs.line.put_words.Goals as goal

pub loop-n-init : goal.loop-n-init
loop-n-init c = run-start c.requires.room

pub put-at-requires-clause-spelt : goal.put-at-requires-clause-spelt
put-at-requires-clause-spelt c = rw c.from.ensures (all-get (λ n. in_digits (numbered n)) 0 c.args.numbers.now c.loop-n.n-index c.loop-n-test.true c.requires.spelt)

pub put-at-requires-clause-room : goal.put-at-requires-clause-room
put-at-requires-clause-room c = rw c.from.ensures (run_room c.loop-n.invariant 0 (omega arith))

pub loop-n-preserved : goal.loop-n-preserved
loop-n-preserved c = run-next c.loop-n.invariant 0 (omega arith) (rw c.from.ensures at c.put-at.ensures)

pub returns : goal.returns
returns c = run_end c.loop-n.invariant (omega arith)

pub shape_of-buf : goal.shape_of-buf
shape_of-buf c = put-long (returns c)
