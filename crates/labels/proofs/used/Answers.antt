-- `labels::used` meets its contract: where check 11 passes, the labels of both sides are counted.
use mathlib.Core.Path.{sym, ◌∙◌}
use Rattle.labels.proofs.Storing.{counts-are, users-limited, objects-limited, used-refused, used-stored}
use Rattle.labels.proofs.used.Goals as goal

pub returns-then-not-check : goal.returns-then-not-check
returns-then-not-check c = used-refused _ (sym c.check.ensures ∙ c.if-not-check.true)

pub of-requires : goal.of-requires
of-requires c = let s = c.label.ensures in (users-limited s.labels s.rows.sides, objects-limited s.labels s.rows.sides)

pub returns : goal.returns
returns c =
    let s = c.label.ensures in
    let n = counts-are s.labels in
    let q = c.of.ensures in
    used-stored _ s.ok _ (rw (q.0, q.1, n.0, n.1))
