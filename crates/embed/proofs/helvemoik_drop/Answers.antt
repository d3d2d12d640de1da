-- `embed::helvemoik_drop` meets its contract: the board's step, crossed.
use mathlib.Core.Path.{ap, ◌∙◌}
use Rattle.embed.specs.Answers.{crossed_step}
use Rattle.embed.proofs.helvemoik_drop.Goals as goal

pub returns : goal.returns
returns c l = c.from.ensures ∙ ap crossed_step (c.drop.ensures l)
