-- `labels::compile` meets its contract: where check 11 passes, both sides are labelled and stored.
use mathlib.Core.Path.{sym, ◌∙◌}
use Rattle.labels.proofs.Storing.{refused-value, refused-widths}
use Rattle.labels.proofs.compile.Goals.{then-not-own_widths-via-then-not-own_widths, then-not-own_widths-via-else-not-own_widths+then-not-check}
use Rattle.labels.proofs.compile.Goals as goal

pub returns-then-not-own_widths : goal.returns-then-not-own_widths
returns-then-not-own_widths g c =
    elim c.then-not-own_widths.branch [
      | then-not-own_widths-via-then-not-own_widths w ↦ refused-widths _ _ _ _ _ (rw (c.BITS.ensures, c.BITS-2.ensures) at (sym c.own_widths.ensures ∙ w.if-not-own_widths.true))
      | then-not-own_widths-via-else-not-own_widths+then-not-check w ↦ refused-value _ _ _ _ _ (sym w.check.ensures ∙ w.if-not-check.true)
    ]
