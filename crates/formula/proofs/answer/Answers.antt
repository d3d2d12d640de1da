-- `formula::answer` meets its contract, answer by answer.
use mathlib.Core.Path.{refl, sym, ◌∙◌}
use Rattle.policy.specs.Value.{policy_of}
use Rattle.formula.specs.Truth.{at}
use Rattle.formula.proofs.Checked.{valid-fits}
use Rattle.formula.proofs.Answers.{sets-fit, no_action_lem, no_set, by_formula}
use Rattle.formula.proofs.answer.Goals as goal

pub returns-then-actions-action : goal.returns-then-actions-action
returns-then-actions-action c =
    let a = c.args in
    no_action_lem a.v.now a.action (at a.user a.object) c.requires (rw c.actions.ensures at c.if-actions-action.true)

pub of_sides-sides-requires : goal.of_sides-sides-requires
of_sides-sides-requires c =
    let f = valid-fits c.args.v.now c.requires in (f.user, f.object)

pub lacks-requires : goal.lacks-requires
unfolding policy_of
lacks-requires c =
    let v = c.args.v.now in (policy_of v, c.of_sides-sides.ensures (policy_of v) refl refl)

pub returns-then-lacks : goal.returns-then-lacks
unfolding policy_of
returns-then-lacks c =
    let a = c.args in
    let p = policy_of a.v.now in
    no_set a.v.now a.action (at a.user a.object) c.requires (rw c.actions.ensures at c.if-actions-action.false)
    (sym (c.lacks.ensures p (c.of_sides-sides.ensures p refl refl)) ∙ c.if-lacks.true)

pub allows-requires : goal.allows-requires
unfolding policy_of
allows-requires c =
    let a = c.args in
    let p = policy_of a.v.now in
    let x = c.of_sides-sides.ensures p refl refl in
    let f = sets-fit p c.of_sides-sides.result x (at a.user a.object) (sym (c.lacks.ensures p x) ∙ c.if-lacks.false) in
    (valid-fits a.v.now c.requires, x, f.0, f.1)

pub returns : goal.returns
unfolding policy_of
returns c =
    let a = c.args in
    let p = policy_of a.v.now in
    c.from.ensures ∙ by_formula a.v.now a.action (at a.user a.object) c.requires (rw c.actions.ensures at c.if-actions-action.false)
    (sym (c.lacks.ensures p (c.of_sides-sides.ensures p refl refl)) ∙ c.if-lacks.false)
    c.allows.result c.allows.ensures
