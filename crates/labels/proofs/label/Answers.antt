-- `labels::label` meets its contract: both sides of a valid policy are labelled.
use Rattle.formula.proofs.Checked.{valid-fits}
use Rattle.labels.proofs.label.Goals as goal

pub of-from-requires : goal.of-from-requires
of-from-requires c = valid-fits _ c.requires.0

pub of-requires : goal.of-requires
of-requires c = (_, c.of-from.ensures.1.sides)

pub label-requires : goal.label-requires
label-requires c =
    let r = c.of-from.ensures in
    let s = c.requires in
    (r.0, (_, r.1, c.of.ensures _ r.1.sides), s.1, s.2)
