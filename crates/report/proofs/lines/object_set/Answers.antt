-- `report::lines::object_set` meets its contract: the shift does not wrap.
use lib.Pow.{pow_pos}
use Rattle.report.proofs.Pieces.{shl_one}
use Rattle.report.proofs.lines.object_set.Goals as goal

pub nonzero_rem-result : goal.nonzero_rem-result
nonzero_rem-result c = rw (shl_one c.args.values c.requires) (pow_pos c.args.values)

pub returns : goal.returns
returns c = rw (shl_one c.args.values c.requires)
