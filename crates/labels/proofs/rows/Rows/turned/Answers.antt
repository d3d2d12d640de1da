-- `labels::rows::columns_of` meets its contract: the sides change places, and the sets are those of the user side.
use mathlib.Core.Path.{◌≡◌, refl, ap, ◌∙◌}
use native.Mathlib.Omega.{arith}
use Rattle.policy.specs.Policy.{total}
use Rattle.policy.specs.Value.{side_of}
use Rattle.formula.specs.Inner.Source.{blocks_of}
use Rattle.labels.proofs.rows.Rows.turned.Goals as goal

pub of_side-requires : goal.of_side-requires
of_side-requires c =
    let s = c.requires.1 in (s.1.fits, omega (arith, c.total-values.ensures s.0.user s.1.sides.user, s.1.sides.user.most))

pub blocks_of-requires : goal.blocks_of-requires
blocks_of-requires c =
    let s = c.requires.1 in omega (arith, c.total-values.ensures s.0.user s.1.sides.user, s.1.sides.user.most)

pub returns : goal.returns
returns c = (
  refl,
  λ p rows.
      let a = c.args.self.now in let u = c.requires.0 in
      let q : p.user ≡ side_of a.side = rw u at rows.side in
      let e : c.total-values.result ≡ total p.user = c.total-values.ensures p.user rows.sides.user in
      record {
        sides = rows.sides;
        side = rw u at rows.other;
        fits = rows.other_fits;
        other = q;
        other_fits = rows.fits;
        blocks = c.blocks_of.ensures ∙ ap blocks_of e;
        long = c.of_side.ensures.0;
        others = rw (← e, q) c.of_side.ensures.1;
        grants = rows.grants;
        actions = rows.actions;
      },
)
