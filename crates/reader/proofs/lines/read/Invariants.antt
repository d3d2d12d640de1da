-- `reader::lines::read` meets its contract: what is held stands for the elements read, and each line leaves less.
use Prim.Native.Nat.{◌-◌}
use lib.ListN.{length}
use Rattle.reader.proofs.RisingLines.{Reading}
use Rattle.reader.proofs.lines.read.Given as goal

abbrev pub invariant-loop-kind : goal.invariant-loop-kind
invariant-loop-kind g l = Reading g.L.Lines.says (g.L.Lines.passes l.lines) g.L.Element.Rising.above g.room l.full l.text l.kind l.fn.cursor l.initial.list l.list l.count l.c

abbrev pub decreases-loop-kind : goal.decreases-loop-kind
decreases-loop-kind g l = length l.text - l.c.at
