-- `formula::decide` meets its contract: refused by check 11, or answered.
use mathlib.Core.Path.{sym, ◌∙◌}
use Rattle.formula.specs.Truth.{at}
use Rattle.formula.proofs.Answers.{invalid}
use Rattle.formula.proofs.decide.Goals as goal

pub returns-then-not-check : goal.returns-then-not-check
returns-then-not-check c =
    let a = c.args in
    invalid a.v a.action (at a.user a.object) (sym c.check.ensures ∙ c.if-not-check.true)
