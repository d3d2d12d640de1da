-- `board::open` meets its contract: check 11, then the ruling and the session's next entry settle the call.
use mathlib.Core.Path.{◌≡◌, ◌∙◌}
use Rattle.board.specs.Machine.{opens}
use Rattle.board.specs.Inner.{refusal_of, lower}
use Rattle.board.proofs.Settled.{stopped, ready, conflicts-ready, open_ruled, settled-near, opened}
use Rattle.board.proofs.open.Goals as goal

-- the ruling is of the call's checks
ruled : (c : goal.After-of_open-ruling) → (let a = c.args in refusal_of c.of_open-ruling.result ≡ lower a.policy (opens a.user a.session a.set) a.board)
ruled c =
    let a = c.args in let x = c.at-entry in let r = c.of-reach in let o = c.over-over in
    open_ruled a.policy a.board c.fits.result c.fits.ensures (rw c.if-not-fits.false)
    a.user a.session x.result x.ensures (refusal_of c.of_open-ruling.result) r.result r.ensures a.set o.result o.ensures c.of_open-ruling.ensures

pub returns-then-not-fits : goal.returns-then-not-fits
returns-then-not-fits c l = search stopped

pub of-reach-requires : goal.of-reach-requires
of-reach-requires c = search ready

pub over-over-requires : goal.over-over-requires
over-over-requires c = search conflicts-ready

pub settle-requires : goal.settle-requires
settle-requires c =
    let a = c.args in
    settled-near a.policy (opens a.user a.session a.set) a.board _ (ruled c)

pub returns : goal.returns
returns c l =
    let a = c.args in
    c.settle.ensures ∙ opened l a.policy a.board a.user a.session _ a.set (ruled c.before)
