-- `writer::number::put_many` meets its contract: the last digit stands behind the others.
use native.Mathlib.Omega.{arith}
use Rattle.writer.proofs.Digits.{one-room, one-put, others-room, last-room, last-put}
use Rattle.writer.proofs.number.+put_many.Goals as goal

pub put_last-requires : goal.put_last-requires
put_last-requires t c = one-room (omega arith) c.requires

pub returns-then-n-lt10 : goal.returns-then-n-lt10
returns-then-n-lt10 t c = one-put (omega arith) c.put_last.ensures

pub put_many-at-requires : goal.put_many-at-requires
put_many-at-requires t c = (omega arith, others-room (omega arith) c.requires)

pub put_last-requires-2 : goal.put_last-requires-2
put_last-requires-2 t c = last-room (omega arith) c.put_many-at.ensures c.requires

pub returns : goal.returns
returns t c = last-put (omega arith) c.put_many-at.ensures c.put_last-2.ensures
