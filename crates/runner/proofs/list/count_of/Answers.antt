-- `runner::list::count_of` meets its contract: the fours, and one more where some numbers are left.
use Rattle.runner.proofs.Items.{count-whole, count-rest}
use Rattle.runner.proofs.list.count_of.Goals as goal

pub returns-then-numbers-eq0 : goal.returns-then-numbers-eq0
returns-then-numbers-eq0 c ns e = count-whole c.args.numbers ns c.if-numbers-eq0.true e

pub returns-else-numbers-eq0 : goal.returns-else-numbers-eq0
returns-else-numbers-eq0 c ns e = count-rest c.args.numbers ns c.if-numbers-eq0.false e
