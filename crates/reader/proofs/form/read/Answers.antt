-- `reader::form::read` meets its contract.
use mathlib.Core.Path.{sym, ◌∙◌}
use Rattle.std.proofs.lemmas.Result.{err_from_is_err_and}
use Rattle.reader.proofs.FormLine.{form-taken, form-next, form-refused}
use Rattle.reader.proofs.form.read.Goals as goal

pub returns-then-not-is_form : goal.returns-then-not-is_form
returns-then-not-is_form c = rw c.refused.ensures (form-refused _ _ c.requires.0 c.requires.1 (sym c.is_form.ensures ∙ c.if-not-is_form.true))

pub returns-in_err-next : goal.returns-in_err-next
returns-in_err-next c =
    let p = err_from_is_err_and c.from_residual.result c.from_residual.ensures.1 in
    rw (p.1, p.2) (form-next _ _ c.requires.0 c.requires.1 (sym c.is_form.ensures ∙ c.if-not-is_form.false) _ c.in_err-next.ensures)

pub returns : goal.returns
returns c = form-taken _ _ c.requires.0 c.requires.1 (sym c.is_form.ensures ∙ c.if-not-is_form.false) _ c.in_ok-next.ensures
