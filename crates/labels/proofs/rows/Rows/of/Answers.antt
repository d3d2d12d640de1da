-- `labels::rows::rows_of` meets its contract: the parts of the value, and the sets of the object side.
use mathlib.Core.Path.{refl, ap, ◌∙◌}
use native.Mathlib.Omega.{arith}
use Rattle.policy.specs.Value.{policy_of}
use Rattle.formula.specs.Inner.Source.{blocks_of}
use Rattle.labels.proofs.rows.Rows.of.Goals as goal

pub of_side-others-requires : goal.of_side-others-requires
unfolding policy_of
of_side-others-requires c =
    let v = c.args.policy.now in let h = c.requires.object in
    (h, omega (arith, c.total-values.ensures (policy_of v).object (c.of_sides-sides.ensures (policy_of v) refl refl).object, h.most))

pub blocks_of-requires : goal.blocks_of-requires
unfolding policy_of
blocks_of-requires c =
    let v = c.args.policy.now in let h = c.requires.object in
    omega (arith, c.total-values.ensures (policy_of v).object (c.of_sides-sides.ensures (policy_of v) refl refl).object, h.most)

pub returns : goal.returns
unfolding policy_of
returns c =
    let v = c.args.policy.now in
    let sides = c.of_sides-sides.ensures (policy_of v) refl refl in
    let e = c.total-values.ensures (policy_of v).object sides.object in (
      refl,
      record {
        sides = sides;
        side = refl;
        fits = c.requires.user;
        other = refl;
        other_fits = c.requires.object;
        blocks = c.blocks_of.ensures ∙ ap blocks_of e;
        long = c.of_side-others.ensures.0;
        others = rw (← e) c.of_side-others.ensures.1;
        grants = c.of_policy.ensures;
        actions = c.actions.ensures;
      },
    )
