-- `reader::rules::read` meets its contract: what is held stands for the rules read, and each line leaves less.
use Prim.Native.Nat.{◌-◌}
use lib.ListN.{length}
use Rattle.reader.proofs.RuleLines.{RulesHeld}
use Rattle.reader.proofs.rules.read.Given as goal

abbrev pub invariant-loop-action : goal.invariant-loop-action
invariant-loop-action l = RulesHeld l.text l.form l.shapes l.fn.cursor l.list l.least l.c

abbrev pub decreases-loop-action : goal.decreases-loop-action
decreases-loop-action l = length l.text - l.c.at
