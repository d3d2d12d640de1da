-- `checks::shape::Shape::attribute_of` meets its contract: i attributes passed, and the attribute among those from place
-- i on of what is left of v.
use native.Mathlib.Omega.{arith}
use lib.ListN.{length-take}
use Rattle.std.proofs.lemmas.Bool.Decides.{nat_tests}
use Rattle.checks.proofs.Laws.{attribute_next, attribute_end}
use Rattle.checks.proofs.shape.Shape.attribute_of.Goals as goal

pub returns-then-left-w : goal.returns-then-left-w
returns-then-left-w c = grind (arith, nat_tests, attribute_next)

pub loop-i-preserved : goal.loop-i-preserved
loop-i-preserved c = grind (arith, nat_tests, attribute_next)

pub returns : goal.returns
returns c = grind (arith, nat_tests, attribute_end, length-take c.args.self.now.attributes c.args.self.now.widths)
