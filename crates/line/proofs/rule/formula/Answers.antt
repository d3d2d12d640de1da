-- `line::rule::formula` meets its contract.
use Rattle.line.proofs.Rules.{formula-fine, formula-unbalanced, formula-unequal}
use Rattle.line.proofs.rule.formula.Goals as goal

pub returns-then-not-all_widths_equal : goal.returns-then-not-all_widths_equal
returns-then-not-all_widths_equal c = search formula-unequal

pub returns-then-not-balanced : goal.returns-then-not-balanced
returns-then-not-balanced c = search formula-unbalanced

pub returns : goal.returns
returns c = search formula-fine
