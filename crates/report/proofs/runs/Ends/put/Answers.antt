-- `report::runs::Ends::put` meets its contract: what stands in the table is the end.
use Rattle.report.proofs.Pieces.{tabled_room, tabled_put}
use borrow.Author.Rules.{rules}
use Rattle.report.proofs.runs.Ends.put.Goals as goal

pub put-requires : goal.put-requires
put-requires c = search (rules, tabled_room)

pub returns : goal.returns
returns c = search (rules, tabled_put)
