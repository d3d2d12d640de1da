-- `board::juniors::with_juniors` meets its contract: r is what the lines read so far make of s.
use mathlib.Core.Path.{◌≡◌}
use mathlib.Core.List.{map, reverse}
use Rattle.seniority.proofs.Laws.{lowered}
use Rattle.board.proofs.juniors.with_juniors.Given as goal

abbrev pub invariant-loop-l : goal.invariant-loop-l
invariant-loop-l l = l.r ≡ lowered (reverse (map (λ y. y.now) l.yielded)) l.fn.s
