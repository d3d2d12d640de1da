-- `board::assigned::table` meets its contract: what is found is that of the entries read so far.
use Rattle.std.proofs.Common.{refl, length-set, take}
use Rattle.std.proofs.lemmas.Iterator.Adapters.{YieldsList-from_rev_slice}
use Rattle.std.proofs.lemmas.Iterator.Consumers.{YieldsList-end}
use Rattle.policy.specs.Value.{entries_of}
use Rattle.board.proofs.ByNumber.{filled_none, filled_next, filled-past}
use Rattle.board.proofs.Chains.{back-push, back-all}
use Rattle.board.proofs.assigned.table.Goals as goal

pub loop-e-init : goal.loop-e-init
loop-e-init c = (refl, filled_none)

pub loop-e-preserved-then-e-lt-USER_NUMBERS : goal.loop-e-preserved-then-e-lt-USER_NUMBERS
loop-e-preserved-then-e-lt-USER_NUMBERS c =
    let v = c.loop-e.invariant in
    (simp length-set v.0, rw (back-push c.loop-e.yielded c.in-Some.e) (filled_next _ c.in-Some.e.now c.loop-e.found v.1 v.0 c.if-e-lt-USER_NUMBERS.true))

pub loop-e-preserved : goal.loop-e-preserved
loop-e-preserved c =
    let v = c.loop-e.invariant in
    (v.0, rw (back-push c.loop-e.yielded c.in-Some.e) (filled-past _ c.in-Some.e.now c.loop-e.found v.1 c.if-e-lt-USER_NUMBERS.false))

pub returns : goal.returns
unfolding entries_of
returns c =
    let u = c.args.users.now in
    let t = YieldsList-end (YieldsList-from_rev_slice (take u.count u.entries) cc) c.loop-e.yielded _ c.loop-e.yielded_by _ _ c.in-None.is c.next.ensures.steps in
    rw (back-all c.loop-e.yielded (take u.count u.entries) t.0) at c.loop-e.invariant.1
