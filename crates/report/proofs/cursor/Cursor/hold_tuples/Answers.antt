-- `report::cursor::Cursor::hold_tuples` meets its contract: what would be handed out is held.
use native.Mathlib.Omega.{arith}
use Rattle.report.proofs.Left.{strip-within, tuples-ready, tuples-handed, handed-held}
use Rattle.report.proofs.Falls.{tuples-fall, holding-falls}
use Rattle.report.proofs.cursor.Cursor.hold_tuples.Goals as goal

pub tuple_lines-lines-requires : goal.tuple_lines-lines-requires
tuple_lines-lines-requires c = tuples-ready c.requires.0.1

pub returns : goal.returns
returns c =
    let y = c.tuple_lines-lines.ensures in
    let l = c.blank-line.ensures in
    let f = tuples-fall c.args.self.now c.tuple_lines-lines.result.next (strip-within c.requires.0.1) (y.moves c.requires.2 (omega (arith, l))) y.high in (
      λ p x. handed-held (tuples-handed x c.requires.1 y) l c.requires.1,
      holding-falls c.args.self.now _ _ _ f (omega (arith, y.put.fits, l)),
    )
