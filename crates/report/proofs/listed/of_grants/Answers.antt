-- `report::listed::of_grants` meets its contract: those below a that have a rule or a pair are stored.
use mathlib.Core.Path.{◌≡◌, sym, ◌∙◌}
use native.Mathlib.Omega.{arith}
use borrow.Author.Rules.{rules}
use Rattle.report.proofs.Collecting.{stored-none, stored-few, stored-hit, stored-miss, stored-all}
use Rattle.report.proofs.listed.of_grants.Goals.{then-named, else-named}
use Rattle.report.proofs.listed.of_grants.Goals as goal

pub loop-a-init : goal.loop-a-init
loop-a-init c = (omega arith, search rules, λ p g. stored-none)

pub named-requires : goal.named-requires
named-requires c = c.requires.0

pub offset_bounds-actions-count : goal.offset_bounds-actions-count
offset_bounds-actions-count c =
    let l = c.loop-a in omega (arith, stored-few (l.invariant.2 c.requires.0.0 c.requires.0.1), c.requires.1)

pub bounds-actions-count : goal.bounds-actions-count
bounds-actions-count c =
    let l = c.loop-a in omega (arith, stored-few (l.invariant.2 c.requires.0.0 c.requires.0.1), c.requires.1)

pub overflow_add-count : goal.overflow_add-count
overflow_add-count c =
    let l = c.loop-a in omega (arith, stored-few (l.invariant.2 c.requires.0.0 c.requires.0.1), c.requires.1)

pub loop-a-preserved : goal.loop-a-preserved
loop-a-preserved c =
    let l = c.loop-a in (
      omega arith,
      l.invariant.1,
      λ p g.
          let x = l.invariant.2 p g in
          let e = c.named.ensures p g in
          elim c.if-named.branch [
            | then-named w ↦ rw (w.actions-is, w.count-is) (stored-hit x (sym e ∙ w.if-named.true) (omega (arith, stored-few x, l.invariant.1, c.requires.1)))
            | else-named w ↦ rw (w.actions-is, w.count-is) (stored-miss x (sym e ∙ w.if-named.false))
          ],
    )

pub returns : goal.returns
returns c =
    let l = c.loop-a in
    let e : l.a ≡ c.args.n = omega arith in
    λ p g. rw e at (stored-all (l.invariant.2 p g) (omega (arith, c.requires.1)))
