-- `board::close` meets its contract: check 11, then the ruling and the session's next entry settle the call.
use mathlib.Core.Path.{◌≡◌, refl, ap, ◌∙◌}
use Rattle.basis.specs.Choice.{there}
use Rattle.board.specs.Machine.{closes}
use Rattle.board.specs.Inner.{refusal_of, lower}
use Rattle.board.proofs.Users.{is_there}
use Rattle.board.proofs.Settled.{stopped, ready, close_ruled, settled-near, closed-again}
use Rattle.board.proofs.close.Goals as goal

pub returns-then-not-fits : goal.returns-then-not-fits
returns-then-not-fits c l = search stopped

pub set_of-found-requires : goal.set_of-found-requires
set_of-found-requires c =
    let a = c.args in
    (ready a.policy a.board c.fits.result c.fits.ensures (rw c.if-not-fits.false)).count

pub settle-requires : goal.settle-requires
settle-requires c =
    let a = c.args in let x = c.at-entry in let r = c.set_of-found in
    -- the ruling is of the call's checks
    let ruled : refusal_of c.of_close-ruling.result ≡ lower a.policy (closes a.user a.session) a.board =
    close_ruled a.policy a.board c.fits.result c.fits.ensures (rw c.if-not-fits.false)
    a.user a.session x.result x.ensures (refusal_of c.of_close-ruling.result) c.is_some.result (c.is_some.ensures ∙ is_there _ ∙ ap there r.ensures) c.of_close-ruling.ensures in
    settled-near a.policy (closes a.user a.session) a.board _ ruled

pub returns : goal.returns
returns c l =
    let a = c.args in let x = c.at-entry in let r = c.set_of-found in
    -- the ruling is of the call's checks
    let ruled : refusal_of c.of_close-ruling.result ≡ lower a.policy (closes a.user a.session) a.board =
    close_ruled a.policy a.board c.fits.result c.fits.ensures (rw c.if-not-fits.false)
    a.user a.session x.result x.ensures (refusal_of c.of_close-ruling.result) c.is_some.result (c.is_some.ensures ∙ is_there _ ∙ ap there r.ensures) c.of_close-ruling.ensures in
    c.settle.ensures
    ∙ closed-again l a.policy a.board a.user a.session _ ruled _ refl
