-- `reader::read` meets its contract.
use Rattle.std.proofs.lemmas.Result.{err_from_is_err_and}
use Rattle.reader.proofs.Whole.{read-refused, long-refused, read-later, read-unfinished, read-whole}
use Rattle.reader.proofs.read.Goals as goal

pub returns-then-text-gt-TEXT_BYTES : goal.returns-then-text-gt-TEXT_BYTES
returns-then-text-gt-TEXT_BYTES c = read-refused _ _ (long-refused _ c.if-text-gt-TEXT_BYTES.true)

pub returns-in_err-start : goal.returns-in_err-start
returns-in_err-start c =
    let p = err_from_is_err_and c.from_residual.result c.from_residual.ensures.1 in
    rw (p.1, p.2) (read-refused _ _ c.in_err-start.ensures)

pub returns-in_err-form : goal.returns-in_err-form
returns-in_err-form c =
    let p = err_from_is_err_and c.from_residual-in_err-form.result c.from_residual-in_err-form.ensures.1 in
    rw (p.1, p.2) (read-later c.in_ok-start.ensures _ c.in_err-form.ensures)

pub read-requires-2 : goal.read-requires-2
read-requires-2 c = ((_, c.in_ok-form.ensures), c.blank-policy.ensures)

pub returns-in_err-sides : goal.returns-in_err-sides
returns-in_err-sides c =
    let p = err_from_is_err_and c.from_residual-in_err-sides.result c.from_residual-in_err-sides.ensures.1 in
    rw (p.1, p.2) (read-later c.in_ok-start.ensures _ (c.in_err-sides.ensures _ c.in_ok-form.ensures))

pub read-requires-3 : goal.read-requires-3
read-requires-3 c = (_, c.in_ok-sides.ensures _ c.in_ok-form.ensures)

pub returns-in_err-cursor : goal.returns-in_err-cursor
returns-in_err-cursor c =
    let p = err_from_is_err_and c.from_residual-in_err-cursor.result c.from_residual-in_err-cursor.ensures.1 in
    rw (p.1, p.2) (read-later c.in_ok-start.ensures _ (c.in_err-cursor.ensures _ (c.in_ok-sides.ensures _ c.in_ok-form.ensures)))

pub finish-requires : goal.finish-requires
finish-requires c = let l = (c.in_ok-cursor.ensures _ (c.in_ok-sides.ensures _ c.in_ok-form.ensures)).lines in (l.stands, l.past)

pub returns-in_err-finish : goal.returns-in_err-finish
returns-in_err-finish c =
    let p = err_from_is_err_and c.from_residual-in_err-finish.result c.from_residual-in_err-finish.ensures.1 in
    rw (p.1, p.2) (read-unfinished c.in_ok-start.ensures (c.in_ok-cursor.ensures _ (c.in_ok-sides.ensures _ c.in_ok-form.ensures)) _ c.in_err-finish.ensures)

pub returns : goal.returns
returns c = read-whole c.in_ok-start.ensures (c.in_ok-cursor.ensures _ (c.in_ok-sides.ensures _ c.in_ok-form.ensures)) c.in_ok-finish.ensures
