-- `labels::strips::part` meets its contract: the labels are those by the rows of the strips before q, and a strip parts
-- them further.
use Prim.Native.Nat.{min, ◌*◌}
use mathlib.Core.Path.{◌≡◌}
use mathlib.Core.Bool.{not}
use lib.ListN.{length}
use Rattle.policy.specs.Policy.{Policy, sets}
use Rattle.formula.specs.Inner.Lane.{side_at}
use Rattle.labels.specs.Rows.{rows_alike}
use Rattle.labels.specs.Inner.Rows.{RowsOf, entry_in}
use Rattle.labels.specs.Inner.Labels.{LabelledIn}
use Rattle.labels.proofs.strips.part.Given as goal

abbrev pub invariant-loop-q : goal.invariant-loop-q
invariant-loop-q l =
    (p : Policy) → RowsOf p l.from → l.n ≡ sets (side_at (not l.from.user) p)
    → LabelledIn (rows_alike (entry_in p l.from.user l.chosen) (min (l.q * l.most) (length l.chosen))) l.n l.classes
