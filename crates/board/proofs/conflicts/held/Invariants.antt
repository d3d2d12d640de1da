-- `board::conflicts::held` meets its contract: the places before place i have what their sessions hold.
use Rattle.basis.proofs.Mapped.{Mapped}
use Rattle.board.specs.Inner.{held_at}
use Rattle.board.proofs.conflicts.held.Given as goal

abbrev pub invariant-loop-i : goal.invariant-loop-i
invariant-loop-i l = Mapped held_at l.i l.sessions l.held
