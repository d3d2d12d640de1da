-- `formula::side::splat` meets its contract: all bits or none.
use mathlib.Core.Path.{sym, ◌∙◌}
use Rattle.formula.proofs.Vectors.{has-ones}
use Rattle.formula.proofs.side.splat.Goals as goal

pub returns-then-b : goal.returns-then-b
returns-then-b c k h = has-ones k h ∙ sym c.if-b.true
