-- `sets::holds` meets its contract: a shift past the last bit is never made, and no set of 32 bits has a value from 32
-- on.
use mathlib.Core.Path.{sym, ◌∙◌}
use borrow.Author.Tests.{le-ltb}
use Rattle.sets.proofs.Laws.{has-none}
use Rattle.sets.proofs.holds.Goals as goal

pub returns-else-v-lt32 : goal.returns-else-v-lt32
returns-else-v-lt32 c =
    le-ltb c.args.v 32 c.if-v-lt32.false ∙ sym (has-none 32 c.args.s c.args.v c.ranges.s.fits c.if-v-lt32.false)
