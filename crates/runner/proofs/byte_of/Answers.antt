-- `runner::byte_of` meets its contract; an answer's number fits a byte.
use native.Mathlib.Omega.{arith}
use Rattle.runner.proofs.Bytes.{reply-byte}
use Rattle.runner.proofs.byte_of.Goals as goal

pub overflow_cast-result : goal.overflow_cast-result
overflow_cast-result c = omega (arith, c.number_of.ensures, reply-byte c.args.answer)

pub returns : goal.returns
returns c = c.number_of.ensures
