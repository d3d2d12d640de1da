-- `formula::attributes::of_sides` meets its contract, side by side.
use mathlib.Core.Path.{ap}
use Rattle.policy.specs.Policy.{Side, total}
use Rattle.policy.specs.Value.{side_of}
use Rattle.formula.proofs.attributes.of_sides.Goals as goal

pub starts-requires : goal.starts-requires
unfolding total side_of
starts-requires c = c.requires.0.most

pub starts-requires-2 : goal.starts-requires-2
unfolding total side_of
starts-requires-2 c = c.requires.1.most

pub returns : goal.returns
unfolding side_of
returns c p e f =
    record { user = c.starts.ensures p.user (ap (λ (s : Side). s.widths) e); object = c.starts-2.ensures p.object (ap (λ (s : Side). s.widths) f) }
