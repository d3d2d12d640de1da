-- `reader::finish` meets its contract.
use mathlib.Core.Path.{sym, ◌∙◌}
use Rattle.std.proofs.lemmas.Result.{err_from_is_err_and}
use Rattle.reader.proofs.Cursors.{ahead_there, end-passed, end-refused, end-away}
use Rattle.reader.proofs.finish.Goals as goal

pub returns-then-not-is_at : goal.returns-then-not-is_at
returns-then-not-is_at c = end-away _ _ (sym c.is_at.ensures ∙ c.if-not-is_at.true) c.requires.1

pub next-requires : goal.next-requires
next-requires c = (c.requires.0, ahead_there _ _ _ c.is_at.ensures c.if-not-is_at.false)

pub returns-in_err-next : goal.returns-in_err-next
returns-in_err-next c =
    let p = err_from_is_err_and c.from_residual.result c.from_residual.ensures.1 in
    rw (p.1, p.2) (λ q. end-refused _ _ c.requires.0 (ahead_there _ _ _ c.is_at.ensures c.if-not-is_at.false) q _ c.in_err-next.ensures)

pub returns : goal.returns
returns c = λ q. end-passed _ _ c.requires.0 (ahead_there _ _ _ c.is_at.ensures c.if-not-is_at.false) q _ c.in_ok-next.ensures
