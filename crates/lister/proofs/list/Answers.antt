-- `lister::list` meets its contract: a chunk that is not empty lessens what remains of the report.
use mathlib.Core.Path.{sym}
use native.Mathlib.Omega.{arith}
use lib.ListN.{length}
use lib.Seq.{length-take-le}
use Rattle.report.specs.Report.{behind}
use Rattle.lister.proofs.Sending.{within}
use Rattle.lister.proofs.list.Goals as goal

pub loop-buffer-init : goal.loop-buffer-init
loop-buffer-init g c = (_, c.start-cursor.ensures)

pub slice_bounds-buffer-end : goal.slice_bounds-buffer-end
slice_bounds-buffer-end g c =
    let l = c.loop-buffer in let x = l.invariant in let y = c.next-chunk.ensures in
    within x.0 l.buffer (y.stored x.0 x.1) (y.counted x.0 x.1)

pub slice_bounds-write_all-end : goal.slice_bounds-write_all-end
slice_bounds-write_all-end g c =
    let l = c.loop-buffer in let x = l.invariant in let y = c.next-chunk.ensures in
    sym (length-take-le _ _ (within x.0 l.buffer (y.stored x.0 x.1) (y.counted x.0 x.1)))

pub loop-buffer-smaller : goal.loop-buffer-smaller
loop-buffer-smaller g c = c.next-chunk.ensures.falls (omega (arith, c.if-n-eq0.false))

pub loop-buffer-preserved : goal.loop-buffer-preserved
loop-buffer-preserved g c =
    let l = c.loop-buffer in let x = l.invariant in
    (behind (length l.buffer) x.0, c.next-chunk.ensures.left_behind x.0 x.1)
