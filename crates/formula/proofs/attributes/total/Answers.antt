-- `formula::attributes::total` meets its contract: the last start is the number of values.
use Rattle.formula.proofs.Widths.{values-at}
use Rattle.formula.proofs.attributes.total.Goals as goal

pub returns : goal.returns
returns c s x = values-at s c.args.starts x
