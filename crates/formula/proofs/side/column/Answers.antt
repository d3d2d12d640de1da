-- `formula::side::column` meets its contract: bit v lies past the part, or is the number's bit from + v.
use mathlib.Core.Path.{sym, ◌∙◌}
use native.Mathlib.Omega.{arith}
use Rattle.sets.proofs.Laws.{has-zero}
use Rattle.formula.proofs.Vectors.{bit_past, bit_in}
use Rattle.formula.proofs.side.column.Goals as goal

pub returns-then-n-v : goal.returns-then-n-v
returns-then-n-v c k h = let a = c.args in has-zero k ∙ sym (bit_past a.b k a.from a.n a.v c.if-n-v.true)

pub returns-else-n-v : goal.returns-else-n-v
returns-else-n-v c k h =
    let a = c.args in
    c.holders.ensures k h ∙ sym (bit_in a.b k a.from a.n a.v (omega arith))
