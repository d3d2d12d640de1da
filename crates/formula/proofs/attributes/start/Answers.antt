-- `formula::attributes::start` meets its contract: past the last entry stands the number of values.
use Rattle.formula.proofs.Widths.{start-past}
use Rattle.formula.proofs.attributes.start.Goals as goal

pub returns-else-i-lt-MOST_VALUES : goal.returns-else-i-lt-MOST_VALUES
returns-else-i-lt-MOST_VALUES c s x = start-past s c.args.starts x c.args.i c.if-i-lt-MOST_VALUES.false
