-- `runner::list::item_at` meets its contract: four numbers from the item's place on, or fewer.
use native.Mathlib.Omega.{arith}
use mathlib.Core.Path.{sym, ◌∙◌}
use Rattle.runner.proofs.Items.{item_within, item_whole, item_short}
use Rattle.runner.proofs.list.item_at.Goals as goal

pub overflow_mul-from : goal.overflow_mul-from
overflow_mul-from c = record { fits = omega (arith, item_within c.args.numbers.now c.args.i c.requires) }

pub overflow_sub-numbers : goal.overflow_sub-numbers
overflow_sub-numbers c = omega (arith, item_within c.args.numbers.now c.args.i c.requires)

pub returns-then-numbers-from-lt-NUMBERS : goal.returns-then-numbers-from-lt-NUMBERS
returns-then-numbers-from-lt-NUMBERS c = sym (item_short c.args.numbers.now c.args.i (omega (arith, item_within c.args.numbers.now c.args.i c.requires)))

pub returns : goal.returns
returns c = c.decode.ensures ∙ sym (item_whole c.args.numbers.now c.args.i (omega (arith, item_within c.args.numbers.now c.args.i c.requires)))
