-- `formula::blocks::blocks_of` meets its contract, below 64 numbers and from there on.
use native.Mathlib.Omega.{arith}
use Rattle.formula.proofs.Numbering.{blocks-one, blocks-shifted}
use Rattle.formula.proofs.blocks.blocks_of.Goals as goal

pub returns-then-n-lt-LANE_BITS : goal.returns-then-n-lt-LANE_BITS
returns-then-n-lt-LANE_BITS c = blocks-one c.args.n c.if-n-lt-LANE_BITS.true

pub returns-else-n-lt-LANE_BITS : goal.returns-else-n-lt-LANE_BITS
returns-else-n-lt-LANE_BITS c = blocks-shifted c.args.n 64 (omega (arith, c.requires))
