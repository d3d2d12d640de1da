-- `validity::side::shape` meets its contract: by its widths, and then by its lines.
use mathlib.Core.Path.{◌∙◌}
use Rattle.std.proofs.Common.{rules}
use Rattle.basis.proofs.Lists.{long}
use Rattle.seniority.specs.Seniority.{direct}
use Rattle.policy.specs.Valid.{same_line}
use Rattle.policy.specs.Inner.Sound.{line_in}
use Rattle.checks.specs.Inner.{sizes_in}
use Rattle.validity.proofs.Stored.{blank-two}
use Rattle.validity.proofs.Whole.{shape-is, side-out, side-lines}
use Rattle.validity.proofs.side.shape.Goals as goal

pub returns-in_err-shape : goal.returns-in_err-shape
returns-in_err-shape c = rw c.from_residual.ensures (side-out c.args.most c.args.x.now c.in_err-shape.ensures)

pub returns-then-not-list_valid : goal.returns-then-not-list_valid
returns-then-not-list_valid c =
    let x = c.args.x.now in
    let s = c.in_ok-shape.shape in
    let m = c.in_ok-shape.ensures in
    side-lines c.args.most x (search (rules, long)) m.0 (shape-is s x (search rules) m.1 m.2 m.3)
    (c.list_valid.ensures (line_in (sizes_in s)) (same_line (direct 0 0)) (λ y r k. search rules) (λ y r k. search (rules, blank-two)))
    ∙ c.if-not-list_valid.true

pub returns : goal.returns
returns c =
    let x = c.args.x.now in
    let s = c.in_ok-shape.shape in
    let m = c.in_ok-shape.ensures in
    let z = shape-is s x (search rules) m.1 m.2 m.3 in (
      side-lines c.args.most x (search (rules, long)) m.0 z
          (c.list_valid.ensures (line_in (sizes_in s)) (same_line (direct 0 0)) (λ y r k. search rules) (λ y r k. search (rules, blank-two)))
          ∙ c.if-not-list_valid.false,
      z,
      m.4,
    )
