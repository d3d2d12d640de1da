-- `embed::helvemoik_decide_by_tuples_16` meets its contract: the number of the answer.
use mathlib.Core.Path.{ap, ◌∙◌}
use Rattle.policy.specs.Answers.{reply_number}
use Rattle.std.proofs.lemmas.List.{map-id}
use Rattle.embed.proofs.helvemoik_decide_by_tuples_16.Goals as goal

pub returns : goal.returns
returns c = c.decision.ensures ∙ ap reply_number (simp map-id at c.decide.ensures)
