-- `board::assigned::table` meets its contract: what is found is that of the entries read so far.
use mathlib.Core.Path.{◌≡◌}
use mathlib.Core.List.{map, reverse}
use lib.ListN.{length}
use Rattle.board.specs.Inner.{ByNumber}
use Rattle.board.proofs.ByNumber.{places}
use Rattle.board.proofs.assigned.table.Given as goal

abbrev pub invariant-loop-e : goal.invariant-loop-e
invariant-loop-e l = (length l.found ≡ places) × ByNumber (reverse (map (λ y. y.now) l.yielded)) l.found
