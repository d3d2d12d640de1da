-- `reader::widths::read` meets its contract: what is held stands for the widths read, and each line leaves less.
use Prim.Native.Nat.{◌-◌}
use lib.ListN.{length}
use Rattle.reader.proofs.WidthLines.{WidthsHeld}
use Rattle.reader.proofs.widths.read.Given as goal

abbrev pub invariant-loop-kind : goal.invariant-loop-kind
invariant-loop-kind l = WidthsHeld l.text l.kind l.most l.initial.c l.widths l.attributes l.total l.c

abbrev pub decreases-loop-kind : goal.decreases-loop-kind
decreases-loop-kind l = length l.text - l.c.at
