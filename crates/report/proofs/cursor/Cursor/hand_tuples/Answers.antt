-- `report::cursor::Cursor::hand_tuples` meets its contract: the lines that are put and those left are all that were left.
use mathlib.Core.Path.{refl}
use Rattle.writer.proofs.Putting.{put-long}
use Rattle.report.proofs.Left.{strip-within, tuples-ready, tuples-handed}
use Rattle.report.proofs.Falls.{tuples-fall}
use Rattle.report.proofs.cursor.Cursor.hand_tuples.Goals as goal

pub tuple_lines-lines-requires : goal.tuple_lines-lines-requires
tuple_lines-lines-requires c = tuples-ready c.requires.0.1

pub shape_of-buf : goal.shape_of-buf
shape_of-buf c = put-long c.tuple_lines-lines.ensures.put

pub returns : goal.returns
returns c =
    let y = c.tuple_lines-lines.ensures in (
      λ p x. tuples-handed x c.requires.1 y,
      tuples-fall c.args.self.now c.tuple_lines-lines.result.next (strip-within c.requires.0.1) (y.moves c.requires.2 c.requires.3) y.high,
      refl,
    )
