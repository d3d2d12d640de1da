-- `board::add` meets its contract: check 11, then the ruling and the session's next entry settle the call.
use mathlib.Core.Path.{◌≡◌, ◌∙◌}
use Rattle.board.specs.Machine.{adds}
use Rattle.board.specs.Inner.{refusal_of, lower}
use Rattle.board.proofs.Settled.{stopped, ready, conflicts-ready, add_ruled, settled-near, added}
use Rattle.board.proofs.add.Goals as goal

-- the ruling is of the call's checks
ruled : (c : goal.After-of_add-ruling) → (let a = c.args in refusal_of c.of_add-ruling.result ≡ lower a.policy (adds a.user a.session a.set) a.board)
ruled c =
    let a = c.args in let x = c.at-entry in let r = c.of-reach in let h = c.union-held in let o = c.over-over in
    add_ruled a.policy a.board c.fits.result c.fits.ensures (rw c.if-not-fits.false)
    a.user a.session x.result x.ensures (refusal_of c.of_add-ruling.result) r.result r.ensures
    a.set h.result h.ensures o.result o.ensures c.of_add-ruling.ensures

pub returns-then-not-fits : goal.returns-then-not-fits
returns-then-not-fits c l = search stopped

pub of-reach-requires : goal.of-reach-requires
of-reach-requires c = search ready

pub over-over-requires : goal.over-over-requires
over-over-requires c = search conflicts-ready

pub settle-requires : goal.settle-requires
settle-requires c =
    let a = c.args in
    settled-near a.policy (adds a.user a.session a.set) a.board _ (ruled c)

pub returns : goal.returns
returns c l =
    let a = c.args in let x = c.at-entry in let h = c.union-held in
    c.settle.ensures
    ∙ added l a.policy a.board a.user a.session _ a.set x.result x.ensures h.result (ruled c.before) h.ensures
