-- `report::cursor::Cursor::step` meets its contract: what is not over is handed out, held or brought up.
use native.Mathlib.Omega.{arith}
use Rattle.writer.proofs.Putting.{put-long}
use Rattle.report.proofs.Handing.{handed-same}
use Rattle.report.proofs.cursor.Cursor.step.Goals as goal

pub hand_held-requires : goal.hand_held-requires
hand_held-requires c =
    (c.requires.0, c.if-self.true, c.requires.2)

pub shape_of-buf-then-self : goal.shape_of-buf-then-self
shape_of-buf-then-self c = let x = c.requires.0 in put-long (c.hand_held.ensures.0 x.0 x.1).put

pub returns-then-self : goal.returns-then-self
returns-then-self c = c.hand_held.ensures

pub overflow_mul-self : goal.overflow_mul-self
overflow_mul-self c = omega (arith, c.requires.0.1.tuples.strip.few)

pub to_more-requires : goal.to_more-requires
to_more-requires c =
    (c.requires.0, c.requires.1, c.if-self.false, c.if-self-2.true)

pub returns-then-self-2 : goal.returns-then-self-2
returns-then-self-2 c =
    let y = c.to_more.ensures in
    ((λ p x. handed-same c.args.buf.now (y.0 p x)), y.1)

pub hold_tuples-requires : goal.hold_tuples-requires
hold_tuples-requires c = (c.requires.0, c.if-self.false, c.if-self-2.false)

pub returns-then-buf-lt-ROOM : goal.returns-then-buf-lt-ROOM
returns-then-buf-lt-ROOM c =
    let y = c.hold_tuples.ensures in
    ((λ p x. handed-same c.args.buf.now (y.0 p x)), y.1)

pub hand_tuples-requires : goal.hand_tuples-requires
hand_tuples-requires c = (c.requires.0, c.if-self.false, c.if-self-2.false, c.if-buf-lt-ROOM.false)

pub shape_of-buf : goal.shape_of-buf
shape_of-buf c = let x = c.requires.0 in put-long (c.hand_tuples.ensures.0 x.0 x.1).put

pub returns : goal.returns
returns c = let y = c.hand_tuples.ensures in (y.0, omega (arith, y.1))
