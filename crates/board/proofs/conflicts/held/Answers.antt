-- `board::conflicts::held` meets its contract: the places before place i have what their sessions hold.
use Rattle.std.proofs.Common.{◌≡◌, ◌∙◌, ℕ, sym, arith, rules, length}
use lib.ListN.{length-replicate}
use Rattle.basis.proofs.Lists.{long}
use Rattle.basis.proofs.Mapped.{mapped_none, mapped_more, mapped_all}
use Rattle.policy.specs.Limits.{session_numbers}
use Rattle.board.specs.Board.{closed}
use Rattle.board.proofs.conflicts.held.Goals as goal

pub loop-i-init : goal.loop-i-init
loop-i-init c =
    let size : length c.args.sessions.now ≡ session_numbers = search (rules, long) in
    mapped_none (length-replicate {A = ℕ} session_numbers 0 ∙ sym size)

pub loop-i-preserved : goal.loop-i-preserved
loop-i-preserved c =
    let size : length c.args.sessions.now ≡ session_numbers = search (rules, long) in
    mapped_more c.loop-i.invariant closed (omega (arith, c.loop-i-test.true)) c.held_by.ensures

pub returns : goal.returns
returns c =
    let size : length c.args.sessions.now ≡ session_numbers = search (rules, long) in
    mapped_all c.loop-i.invariant (omega (arith, c.loop-i-test.false))
