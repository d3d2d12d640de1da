-- `report::runs::Start::of` meets its contract: there is room for a start.
use lib.Dec.{lit≤}
use Rattle.basis.specs.Bytes.{bytes}
use Rattle.report.proofs.Short.{start-short, start-room}
use Rattle.report.proofs.Pieces.{start_fits}
use borrow.Author.Rules.{rules}
use Rattle.report.proofs.runs.Start.of.Goals as goal

pub put_start-count-requires : goal.put_start-count-requires
put_start-count-requires c = (search rules, start-room (bytes "tuple") _ _ (lit≤ tt) (search rules) (search rules) (lit≤ tt))

pub invariant_of-result : goal.invariant_of-result
invariant_of-result c =
    let f = start_fits _ _ c.put_start-count.ensures (start-short (bytes "tuple") _ _ (lit≤ tt) (search rules) (search rules)) (lit≤ tt) in
    record { least = f.0; most = f.1; long = f.2; are = f.3 }
