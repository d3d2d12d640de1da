-- `board::fit::fits` meets its contract: a valid value has all that working out reach and counting values asks.
use mathlib.Core.Path.{sym, ◌∙◌}
use borrow.Author.Tests.{eq-eqb}
use Rattle.board.proofs.Fitting.{fits-unreached, fits-no_conflict, fits_kept, fits-invalid}
use Rattle.board.proofs.Judging.{conflicts-within}
use Rattle.board.proofs.Valid.{reachable}
use Rattle.board.proofs.fit.fits.Goals as goal

pub returns-then-not-check : goal.returns-then-not-check
returns-then-not-check c = fits-invalid c.args.policy.now c.args.board.now (sym c.check.ensures ∙ c.if-not-check.true)

pub all_reached-requires : goal.all_reached-requires
all_reached-requires c = reachable _ (sym c.check.ensures ∙ c.if-not-check.false)

pub returns-then-not-all_reached : goal.returns-then-not-all_reached
returns-then-not-all_reached c =
    let a = c.args in
    fits-unreached a.policy.now a.board.now (sym c.check.ensures ∙ c.if-not-check.false) _ c.all_reached.ensures c.if-not-all_reached.true

pub returns-then-policy-eq0 : goal.returns-then-policy-eq0
returns-then-policy-eq0 c =
    let a = c.args in
    rw (eq-eqb a.policy.now.conflicts.count 0 c.if-policy-eq0.true)
    (fits-no_conflict a.policy.now a.board.now (sym c.check.ensures ∙ c.if-not-check.false) _ c.all_reached.ensures c.if-not-all_reached.false c.if-policy-eq0.true)

pub over-requires : goal.over-requires
over-requires c = conflicts-within _ (sym c.check.ensures ∙ c.if-not-check.false)

pub returns-else-policy-eq0 : goal.returns-else-policy-eq0
returns-else-policy-eq0 c =
    let a = c.args in
    fits_kept a.policy.now a.board.now (sym c.check.ensures ∙ c.if-not-check.false) _ c.all_reached.ensures c.if-not-all_reached.false _ c.held.ensures _ c.over.ensures
