-- `report::lines::action_line` meets its contract: there is room for a line of two numbers.
use borrow.Author.Rules.{rules}
use lib.Dec.{lit≤}
use Rattle.basis.specs.Bytes.{bytes}
use Rattle.report.proofs.Short.{line-is, two-room}
use Rattle.report.proofs.lines.action_line.Goals as goal

pub put-requires : goal.put-requires
put-requires c = (search rules, two-room (bytes "action") _ _ (lit≤ tt) (search rules) (search rules) c.requires)

pub returns : goal.returns
returns c = rw line-is at c.put.ensures
