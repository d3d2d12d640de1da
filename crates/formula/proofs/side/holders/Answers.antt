-- `formula::side::holders` meets its contract: the low six values of 64b + k are those of k, the others those of b.
use mathlib.Core.Path.{◌∙◌}
use Rattle.formula.proofs.Vectors.{low-holders, high-holders}
use Rattle.formula.proofs.side.holders.Goals as goal

pub returns-then-v-lt-LANE_BITS : goal.returns-then-v-lt-LANE_BITS
returns-then-v-lt-LANE_BITS c k h = low-holders c.args.b c.args.v k h c.if-v-lt-LANE_BITS.true

pub returns : goal.returns
returns c k h =
    let a = c.args in
    high-holders a.b a.v k h c.splat.result c.if-v-lt-LANE_BITS.false (c.splat.ensures k h ∙ c.holds.ensures)
