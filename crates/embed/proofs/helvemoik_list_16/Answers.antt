-- `embed::helvemoik_list_16` meets its contract: the answer, counted.
use mathlib.Core.Path.{ap, ◌∙◌}
use Rattle.embed.specs.Answers.{counted}
use Rattle.std.proofs.lemmas.List.{map-id}
use Rattle.embed.proofs.helvemoik_list_16.Goals as goal

pub returns : goal.returns
returns c =
    let w = c.list in
    record { answer = c.from.ensures ∙ ap counted (simp map-id at w.ensures.answer); tuples = simp map-id at w.ensures.stored }
