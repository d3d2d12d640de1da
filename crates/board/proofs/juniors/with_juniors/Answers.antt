-- `board::juniors::with_juniors` meets its contract: r is what the lines read so far make of s.
use Rattle.std.proofs.Common.{refl, arith}
use Rattle.std.proofs.lemmas.Iterator.Adapters.{YieldsList-from_rev_slice}
use Rattle.std.proofs.lemmas.Iterator.Consumers.{YieldsList-turn, YieldsList-end}
use Rattle.seniority.specs.Inner.{word_bits}
use Rattle.seniority.proofs.Laws.{lowered, has-lowered, ordered-line}
use Rattle.board.proofs.Chains.{back-push, back-all, read-in}
use Rattle.board.proofs.juniors.with_juniors.Goals as goal

pub loop-l-init : goal.loop-l-init
unfolding lowered
loop-l-init c = refl

pub extend-r-requires : goal.extend-r-requires
extend-r-requires c =
    let t = YieldsList-turn (YieldsList-from_rev_slice c.args.lines.now cc) c.loop-l.yielded _ c.loop-l.yielded_by _ _ c.in-Some.l c.in-Some.is c.next.ensures.steps in
    let line = ordered-line word_bits c.args.lines.now c.requires c.in-Some.l.now (read-in c.args.lines.now _ _ t) in
    omega (arith, line)

pub loop-l-preserved : goal.loop-l-preserved
unfolding lowered
loop-l-preserved c = rw (back-push c.loop-l.yielded c.in-Some.l, ← c.loop-l.invariant) c.extend-r.ensures

pub returns : goal.returns
returns c v =
    let t = YieldsList-end (YieldsList-from_rev_slice c.args.lines.now cc) c.loop-l.yielded _ c.loop-l.yielded_by _ _ c.in-None.is c.next.ensures.steps in
    rw (c.loop-l.invariant, back-all c.loop-l.yielded c.args.lines.now t.0) (has-lowered word_bits c.args.lines.now c.requires c.args.s v)
