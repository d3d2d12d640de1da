-- `writer::bytes::put` meets its contract: after i turns the first i bytes are put.
use Prim.Native.Nat.{◌+◌}
use lib.ListN.{take}
use Rattle.writer.specs.Inner.Put.{Put}
use Rattle.writer.proofs.bytes.put.Given as goal

abbrev pub invariant-loop-i : goal.invariant-loop-i
invariant-loop-i l = Put (take l.i l.s) l.at l.initial.buf l.buf (l.at + l.i)
