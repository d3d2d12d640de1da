-- `validity::lent::check` meets its contract: by the form, both sides and the lists.
use mathlib.Core.Path.{sym, ◌∙◌}
use mathlib.Core.Bool.{and-false}
use Rattle.policy.proofs.Forms.{values-most}
use Rattle.validity.proofs.Whole.{both-are, valid-parts}
use Rattle.validity.proofs.lent.check.Goals as goal

pub returns-then-not-is_form : goal.returns-then-not-is_form
returns-then-not-is_form c = sym (valid-parts c.args.v.now ∙ rw (← c.is_form.ensures, c.if-not-is_form.true))

pub shape-requires : goal.shape-requires
shape-requires c = rw c.values-most.ensures (values-most c.args.v.now.form)

pub returns-in_default : goal.returns-in_default
returns-in_default c = sym (valid-parts c.args.v.now ∙ rw (← c.values-most.ensures, c.in_default.ensures, and-false))

pub shape-requires-2 : goal.shape-requires-2
shape-requires-2 c = rw c.values-most.ensures (values-most c.args.v.now.form)

pub returns-in_default-shape : goal.returns-in_default-shape
returns-in_default-shape c =
    sym (valid-parts c.args.v.now ∙ rw (← c.values-most.ensures, c.in_default-shape.ensures, and-false, and-false))

pub returns : goal.returns
returns c =
    let v = c.args.v.now in
    let u = c.in-Some.ensures in
    let o = c.in-Some-shape.ensures in
    rw (valid-parts v, ← c.is_form.ensures, c.if-not-is_form.false, ← c.values-most.ensures, u.0, o.0, ← both-are v (record { user = c.in-Some.user; object = c.in-Some-shape.object }) u.1 o.1) c.lists_valid.ensures
