-- `labels::apart` meets its contract: check 11 gives what the rows ask, and sets that are there are told by their rows.
use mathlib.Core.Path.{sym, ◌∙◌}
use native.Mathlib.Omega.{arith}
use Rattle.policy.specs.Value.{policy_of}
use Rattle.formula.proofs.Checked.{valid-fits}
use Rattle.labels.proofs.Told.{refused-value, refused-first, refused-second, not-refused}
use Rattle.labels.proofs.apart.Goals.{then-view-u-via-then-view-u, then-view-u-via-else-view-u+then-view-w}
use Rattle.labels.proofs.apart.Goals as goal

pub returns-then-not-check : goal.returns-then-not-check
returns-then-not-check c = refused-value _ _ _ (sym c.check.ensures ∙ c.if-not-check.true)

pub of-from-requires : goal.of-from-requires
of-from-requires c = valid-fits _ (sym c.check.ensures ∙ c.if-not-check.false)

pub of-view-requires : goal.of-view-requires
of-view-requires c = (_, c.of-from.ensures.1.sides)

pub returns-then-view-u : goal.returns-then-view-u
returns-then-view-u c =
    let ok = sym c.check.ensures ∙ c.if-not-check.false in
    let v = c.of-view.ensures _ c.of-from.ensures.1.sides in
    elim c.then-view-u.branch [
      | then-view-u-via-then-view-u w ↦ refused-first _ _ _ ok (rw (← v.users) w.if-view-u.true)
      | then-view-u-via-else-view-u+then-view-w w ↦ refused-second _ _ _ ok (rw (← v.users) w.if-view-w.true)
    ]

pub tell-requires : goal.tell-requires
tell-requires c =
    let r = c.of-from.ensures in
    let v = c.of-view.ensures _ r.1.sides in
    let m = v.few-users in
    (r.0, (policy_of _, r.1, v.objects), omega (arith, c.if-view-u.false), omega (arith, c.if-view-w.false))

pub returns : goal.returns
returns c =
    let r = c.of-from.ensures.1 in
    let v = c.of-view.ensures _ r.sides in
    c.tell.ensures _
    (not-refused _ _ _ (sym c.check.ensures ∙ c.if-not-check.false) (rw (← v.users) c.if-view-u.false) (rw (← v.users) c.if-view-w.false))
    r v.objects
