-- `reader::cursor::look` meets its contract: an open line, one that is refused, or a line.
use Rattle.reader.proofs.Cursors.{looked_open, looked_fault, looked_line}
use Rattle.reader.proofs.cursor.look.Goals as goal

pub returns-then-end-text : goal.returns-then-end-text
returns-then-end-text c = looked_open _ _ c.args.n c.args.before _ c.find-end.ensures c.if-end-text.true c.if-at-text.false c.requires.0

pub returns-in-Ok : goal.returns-in-Ok
returns-in-Ok c = looked_line _ _ c.args.n c.args.before _ c.find-end.ensures c.if-end-text.false _ c.parse.ensures _ c.in-Ok.is c.requires.1

pub returns-in-Err : goal.returns-in-Err
returns-in-Err c = looked_fault _ _ c.args.n c.args.before _ c.find-end.ensures c.if-end-text.false _ c.parse.ensures _ c.in-Err.is
