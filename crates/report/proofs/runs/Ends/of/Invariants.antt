-- `report::runs::Ends::of` meets its contract: after each turn the ends of the numbers before n stand in the table.
use mathlib.Core.Path.{◌≡◌}
use lib.ListN.{length}
use Rattle.report.specs.Inner.Runs.{EndsTo}
use Rattle.report.proofs.runs.Ends.of.Given as goal

abbrev pub invariant-loop-n : goal.invariant-loop-n
invariant-loop-n l = (length l.bytes ≡ 2048) × EndsTo l.n l.bytes
