-- `checks::shape::Shape::attribute_of` meets its contract: i attributes passed, and the attribute among those from place
-- i on of what is left of v.
use Prim.Native.Nat.{◌+◌}
use mathlib.Core.Path.{◌≡◌}
use lib.ListN.{drop}
use Rattle.policy.specs.Policy.{attribute_of}
use Rattle.checks.specs.Inner.{sizes_in}
use Rattle.checks.proofs.shape.Shape.attribute_of.Given as goal

abbrev pub invariant-loop-i : goal.invariant-loop-i
invariant-loop-i l =
    let ws = (sizes_in l.self).widths in
    attribute_of ws l.v ≡ l.i + attribute_of (drop l.i ws) l.left
