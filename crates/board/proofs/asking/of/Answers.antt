-- `board::asking::of` meets its contract: check 11, then what the request comes to is what its answer goes by.
use mathlib.Core.Path.{refl}
use Rattle.board.proofs.Asked.{asked-step}
use Rattle.board.proofs.Settled.{stopped-widths, stopped, objects-ready}
use Rattle.board.proofs.asking.of.Goals as goal

pub returns-then-not-own_widths : goal.returns-then-not-own_widths
returns-then-not-own_widths c l e =
    let a = c.args in let w = c.own_widths in
    stopped-widths a.policy.now l a.board.now a.session a.action a.object w.result (rw e w.ensures) (rw c.if-not-own_widths.true) _ refl

pub returns-then-not-fits : goal.returns-then-not-fits
returns-then-not-fits c l e =
    let a = c.args in
    stopped a.policy.now a.board.now c.fits.result c.fits.ensures l _ (rw c.if-not-fits.true) _ refl

pub set_of-set-requires : goal.set_of-set-requires
set_of-set-requires c = search objects-ready

pub returns : goal.returns
returns c l e =
    let a = c.args in
    asked-step a.policy.now l a.board.now a.session a.action a.object c.own_widths.result (rw e c.own_widths.ensures) (rw c.if-not-own_widths.false)
    c.fits.result c.fits.ensures (rw c.if-not-fits.false) c.actions-actions.result c.actions-actions.ensures
    _ (λ p eo ea. rw (← c.at-entry.ensures) (c.judge.ensures p a.object ea (rw eo c.set_of-set.ensures))) _ refl
