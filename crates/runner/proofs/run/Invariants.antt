-- `runner::run` meets its contract: before place i the board and the answers are those of the first i items.
use Prim.Native.Nat.{◌≤◌}
use mathlib.Core.Path.{◌≡◌}
use lib.ListN.{length}
use mathlib.Core.List.{map}
use Rattle.policy.specs.Limits.{bits}
use Rattle.labels.specs.Compile.{lent as lent_as}
use Rattle.board.specs.Board.{labels_of, board_step}
use Rattle.runner.specs.Calls.{items_in}
use Rattle.runner.proofs.Weaving.{Reached}
use Rattle.runner.proofs.run.Given as goal

abbrev pub invariant-loop-i : goal.invariant-loop-i
invariant-loop-i g l =
    (l.n ≡ length (items_in l.calls)) × (l.n ≤ length l.initial.answers)
    × Reached (board_step l.policy (labels_of l.lent.counts (lent_as (bits g.L.Stored.BITS g.E.Stored.BITS) (map g.L.Stored.number l.lent.users.now) (map g.L.Stored.number l.lent.objects.now) (map g.E.Stored.number l.lent.table.now)))) (items_in l.calls) l.initial.board l.initial.answers l.i l.board l.answers
