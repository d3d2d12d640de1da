-- `line::rule::words` meets its contract: the words done, and those of the fields left, are the words of all fields.
use Prim.Native.Nat.{◌-◌}
use lib.ListN.{length}
use Rattle.line.proofs.Rules.{Sofar}
use Rattle.line.proofs.rule.words.Given as goal

abbrev pub invariant-loop-word : goal.invariant-loop-word
invariant-loop-word l = Sofar l.line l.from l.words l.count l.at

abbrev pub decreases-loop-word : goal.decreases-loop-word
decreases-loop-word l = length l.line - l.at
