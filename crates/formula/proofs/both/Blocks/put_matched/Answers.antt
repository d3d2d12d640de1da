-- `formula::both::Blocks::put_matched` meets its contract: attributes of equal width are compared place by place from their
-- first values.
use mathlib.Core.Path.{sym, ◌∙◌}
use native.Mathlib.Omega.{arith}
use borrow.Author.Tests.{eq-eqb}
use Rattle.policy.specs.Policy.{width}
use Rattle.formula.proofs.Placing.{placed_as}
use Rattle.formula.proofs.Widths.{start_fits}
use Rattle.formula.proofs.both.Blocks.put_matched.Goals as goal

pub put_passing-requires : goal.put_passing-requires
put_passing-requires c =
    let a = c.args in
    let p = c.requires.0.0 in let s = c.requires.0.1 in
    let m = c.width-w.ensures p.user s.user in
    let n = c.width.ensures p.object s.object in (
      omega (arith, m, c.start-a.ensures p.user s.user, start_fits p.user a.self.now.sides.user s.user a.i),
      omega (arith, n, c.if-w-width.false, c.start-c.ensures p.object s.object, start_fits p.object a.self.now.sides.object s.object a.j),
      c.requires.1,
    )

pub returns : goal.returns
returns c =
    let a = c.args in
    placed_as c.put_passing.ensures (λ b y h e p k s x.
    let m = c.width-w.ensures p.user x.0.user in
    let n = c.width.ensures p.object x.0.object in
    rw (eq-eqb (width p.user a.i) (width p.object a.j) (sym m ∙ c.if-w-width.false ∙ n))
    (rw (m, c.start-a.ensures p.user x.0.user, c.start-c.ensures p.object x.0.object) at (e p k s x.1)))
