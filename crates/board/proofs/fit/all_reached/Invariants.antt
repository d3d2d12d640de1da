-- `board::fit::all_reached` meets its contract: the entries from place i on decide.
use mathlib.Core.Path.{◌≡◌}
use lib.ListN.{drop}
use Rattle.basis.specs.Lists.{all}
use Rattle.policy.specs.Policy.{Policy}
use Rattle.policy.specs.Value.{side_of}
use Rattle.board.proofs.ByNumber.{Assigns}
use Rattle.board.proofs.Fitting.{reached_in}
use Rattle.board.proofs.fit.all_reached.Given as goal

abbrev pub invariant-loop-entry : goal.invariant-loop-entry
invariant-loop-entry l =
    (p : Policy) → p.user ≡ side_of l.side → Assigns p l.table → all (reached_in p) l.sessions ≡ all (reached_in p) (drop l.entry-index l.sessions)
