-- `report::chunks::first_line` meets its contract: the line that is held is the first of the text's report.
use mathlib.Core.Path.{ap, ◌∙◌}
use Prim.Native.Nat.{ℕ}
use native.Mathlib.Omega.{arith}
use Rattle.policy.specs.Read.{read_text}
use Rattle.report.specs.Report.{refusal_line}
use Rattle.report.specs.Inner.Lines.{ended}
use Rattle.report.proofs.Left.{held-put, held_fits}
use Rattle.report.proofs.Reading.{read-valid, read-line, accepted-first, refused-first}
use Rattle.report.proofs.chunks.first_line.Goals as goal

pub count_labels-counts-requires : goal.count_labels-counts-requires
count_labels-counts-requires c =
    read-valid c.requires.0 c.in-Ok.policy (rw c.in-Ok.is at c.requires.1)

pub labels_line-to-requires : goal.labels_line-to-requires
labels_line-to-requires c = omega (arith, c.blank-bytes.ensures)

pub overflow_cast-rejection : goal.overflow_cast-rejection
overflow_cast-rejection c =
    omega (arith, read-line c.requires.0 c.in-Err.rejection (rw c.in-Err.is at c.requires.1))

pub refusal_line-to-requires : goal.refusal_line-to-requires
refusal_line-to-requires c = omega (arith, c.blank-bytes.ensures)

pub returns-in-Ok : goal.returns-in-Ok
returns-in-Ok c =
    let y = c.labels_line-to.ensures in
    let n = c.count_labels-counts.ensures in (
      held_fits y c.blank-bytes.ensures,
      λ t x. held-put y ∙ ap ended (accepted-first t c.in-Ok.policy (rw c.in-Ok.is at x) n.0 n.1),
    )

pub returns-in-Err : goal.returns-in-Err
returns-in-Err c =
    let y = c.refusal_line-to.ensures in (
      held_fits y c.blank-bytes.ensures,
      λ t x.
          held-put y
          ∙ ap ended (ap (λ (k : ℕ). refusal_line k c.in-Err.rejection.line) c.from-number.ensures ∙ refused-first (read_text t) c.in-Err.rejection (rw c.in-Err.is at x)),
    )
