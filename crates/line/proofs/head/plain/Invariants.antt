-- `line::head::plain` meets its contract: the fields read so far are the first of the line.
use Rattle.line.proofs.Fields.{NumbersRead}
use Rattle.line.proofs.head.plain.Given as goal

abbrev pub invariant-loop-value : goal.invariant-loop-value
invariant-loop-value l = NumbersRead l.line l.c l.value-items l.value-index l.at
