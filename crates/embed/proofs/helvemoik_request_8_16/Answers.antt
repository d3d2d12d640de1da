-- `embed::helvemoik_request_8_16` meets its contract: the board's step, crossed.
use mathlib.Core.Path.{ap, ◌∙◌}
use Rattle.embed.specs.Answers.{crossed_step}
use Rattle.std.proofs.lemmas.List.{map-id}
use Rattle.embed.proofs.helvemoik_request_8_16.Goals as goal

pub returns : goal.returns
returns c = c.from.ensures ∙ ap crossed_step (rw c.counts_of.ensures at (simp map-id at c.request.ensures))
