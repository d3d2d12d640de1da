-- `report::runs::Ends::of` meets its contract: after each turn the ends of the numbers before n stand in the table.
use mathlib.Core.Path.{refl, ◌∙◌}
use native.Mathlib.Omega.{arith}
use Rattle.writer.proofs.Putting.{put-long}
use Rattle.report.proofs.Pieces.{ends-none, ends_next, ends-room}
use borrow.Author.Rules.{rules}
use Rattle.report.proofs.runs.Ends.of.Goals as goal

pub loop-n-init : goal.loop-n-init
loop-n-init c = (refl, ends-none _)

pub put_end-requires : goal.put_end-requires
put_end-requires c = ends-room c.loop-n.auto.n (search rules) c.loop-n.invariant.0

pub loop-n-preserved : goal.loop-n-preserved
loop-n-preserved c =
    let i = c.loop-n.invariant in
    (put-long c.put_end.ensures ∙ i.0, ends_next c.loop-n.auto.n (search rules) i.1 c.put_end.ensures)

pub invariant_of-result : goal.invariant_of-result
invariant_of-result c =
    let i = c.loop-n.invariant in
    record { few = search rules; long = omega (arith, i.0); stand = λ o h l. i.1 o h (omega (arith, l, c.loop-n-test.false)) }
