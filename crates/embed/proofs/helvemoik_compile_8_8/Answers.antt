-- `embed::helvemoik_compile_8_8` meets its contract: the answer, crossed.
use mathlib.Core.Path.{ap, ◌∙◌}
use Rattle.embed.specs.Answers.{crossed_counts}
use Rattle.std.proofs.lemmas.List.{map-id}
use Rattle.embed.proofs.helvemoik_compile_8_8.Goals as goal

pub returns : goal.returns
returns c =
    let w = c.compile in
    record { answer = c.from.ensures ∙ ap crossed_counts (simp map-id at w.ensures.answer); buffers = simp map-id at w.ensures.buffers }
