-- `board::drop` meets its contract: check 11, then the ruling and the session's next entry settle the call.
use mathlib.Core.Path.{◌≡◌, ◌∙◌}
use Rattle.board.specs.Machine.{drops}
use Rattle.board.specs.Inner.{refusal_of, lower}
use Rattle.board.proofs.Settled.{stopped, ready, drop-ruled, settled-near, dropped}
use Rattle.board.proofs.drop.Goals as goal

pub returns-then-not-fits : goal.returns-then-not-fits
returns-then-not-fits c l = search stopped

pub of-reach-requires : goal.of-reach-requires
of-reach-requires c = search ready

pub settle-requires : goal.settle-requires
settle-requires c =
    let a = c.args in let x = c.at-entry in let r = c.of-reach in
    -- the ruling is of the call's checks
    let ruled : refusal_of c.of_drop-ruling.result ≡ lower a.policy (drops a.user a.session a.set) a.board =
    drop-ruled a.policy a.board c.fits.result c.fits.ensures (rw c.if-not-fits.false)
    a.user a.session x.result x.ensures (refusal_of c.of_drop-ruling.result) r.result r.ensures a.set c.of_drop-ruling.ensures in
    settled-near a.policy (drops a.user a.session a.set) a.board _ ruled

pub returns : goal.returns
returns c l =
    let a = c.args in let x = c.at-entry in let r = c.of-reach in
    -- the ruling is of the call's checks
    let ruled : refusal_of c.of_drop-ruling.result ≡ lower a.policy (drops a.user a.session a.set) a.board =
    drop-ruled a.policy a.board c.fits.result c.fits.ensures (rw c.if-not-fits.false)
    a.user a.session x.result x.ensures (refusal_of c.of_drop-ruling.result) r.result r.ensures a.set c.of_drop-ruling.ensures in
    let h = c.minus-held in
    c.settle.ensures
    ∙ dropped l a.policy a.board a.user a.session _ a.set x.result x.ensures h.result ruled h.ensures
