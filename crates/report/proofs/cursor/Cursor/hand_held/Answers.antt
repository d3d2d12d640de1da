-- `report::cursor::Cursor::hand_held` meets its contract: the bytes handed out and those still held are all that were held.
use native.Mathlib.Omega.{arith}
use Rattle.writer.proofs.Putting.{put-long}
use Rattle.report.proofs.Left.{held-room, held-handed}
use Rattle.report.proofs.Falls.{held-falls}
use Rattle.report.proofs.cursor.Cursor.hand_held.Goals as goal

pub overflow_add-end : goal.overflow_add-end
overflow_add-end c =
    omega (arith, c.requires.0.1.held.high, c.requires.0.1.held.long)

pub slice_bounds-put-end : goal.slice_bounds-put-end
slice_bounds-put-end c =
    omega (arith, c.requires.0.1.held.high)

pub put-count-requires : goal.put-count-requires
put-count-requires c =
    held-room c.requires.0.1 c.min.result (omega arith) c.args.buf.now (omega arith)

pub shape_of-buf : goal.shape_of-buf
shape_of-buf c = put-long c.put-count.ensures

pub returns : goal.returns
returns c = (
  λ p x. held-handed x c.min.result (omega arith) c.put-count.ensures,
  held-falls c.args.self.now c.min.result (omega (arith, c.requires.1, c.requires.2)) (omega arith),
)
