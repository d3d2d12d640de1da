-- `embed::helvemoik_open` meets its contract: the board's step, crossed.
use mathlib.Core.Path.{ap, ◌∙◌}
use Rattle.embed.specs.Answers.{crossed_step}
use Rattle.embed.proofs.helvemoik_open.Goals as goal

pub returns : goal.returns
returns c l = c.from.ensures ∙ ap crossed_step (c.open.ensures l)
