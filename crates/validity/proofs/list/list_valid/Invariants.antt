-- `validity::list::list_valid` meets its contract: the elements before place i pass, and `before` is the last of them.
use Rattle.std.specs.Prelude.{None}
use Rattle.std.specs.Option.{option_copied}
use mathlib.Core.Path.{◌≡◌}
use mathlib.Core.Bool.{Bool}
use lib.ListN.{take, drop}
use Rattle.std.specs.Fn.{FnReturnsAt}
use Rattle.policy.specs.Inner.Sound.{rising}
use Rattle.validity.proofs.list.list_valid.Given as goal

abbrev pub invariant-loop-x : goal.invariant-loop-x
invariant-loop-x g l =
    let xs = take l.count l.places in
    (f : g.row.T.Denot → Bool) → ((x : g.row.T.Denot) (r : Bool) → FnReturnsAt g.F.Fn l.fits x r → r ≡ f x)
    → rising f g.T.Rising.above None xs ≡ rising f g.T.Rising.above (option_copied l.before) (drop l.x-index xs)
