-- `validity::behind::all_blank` meets its contract: `blank` says whether the places before place i are.
use mathlib.Core.Path.{◌≡◌}
use mathlib.Core.Bool.{Bool, ◌&&◌}
use lib.ListN.{drop}
use Rattle.std.specs.Fn.{FnReturnsAt}
use Rattle.basis.specs.Lists.{all}
use Rattle.validity.proofs.behind.all_blank.Given as goal

abbrev pub invariant-loop-x : goal.invariant-loop-x
invariant-loop-x g l =
    (test : g.row.T.Denot → Bool) → ((x : g.row.T.Denot) (r : Bool) → FnReturnsAt g.B.Fn l.is_blank x r → r ≡ test x)
    → all test l.places ≡ (l.blank && all test (drop l.x-index l.places))
