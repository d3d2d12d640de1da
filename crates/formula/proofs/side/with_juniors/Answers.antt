-- `formula::side::with_juniors` meets its contract: in every lane r is what the lines gone through make of the set.
use Prim.Native.Nat.{◌<◌}
use mathlib.Core.Path.{◌≡◌, refl, sym, ◌∙◌}
use mathlib.Core.List.{List, [], ◌∷◌, ◌++◌}
use native.Mathlib.Omega.{arith}
use borrow.Author.Rules.{rules}
use Rattle.std.proofs.lemmas.List.{append-nil}
use Rattle.formula.proofs.Backwards.{moved, moved-in, all_done}
use Rattle.seniority.specs.declared.Direct.{Direct}
use Rattle.seniority.specs.Seniority.{held_or_senior}
use Rattle.seniority.specs.Inner.{Ordered}
use Rattle.seniority.proofs.Laws.{lowered, has-lowered, held_or_senior-none, ordered-line}
use Rattle.policy.specs.Limits.{most_values}
use Rattle.formula.proofs.Vectors.{grown_none, grown_line, grown_stands}
use Rattle.formula.proofs.side.with_juniors.Goals as goal

bounded : {lines : List Direct} (left done : List Direct) (l : Direct) → Ordered most_values lines → lines ≡ left ++ (l ∷ done)
    → (l.junior < l.senior) × (l.senior < most_values)
bounded {lines} left done l o e = ordered-line most_values lines o l (moved-in left done l e)

pub loop-line-init : goal.loop-line-init
unfolding lowered
loop-line-init c =
    let e : c.args.lines.now ≡ c.into_iter-line-iterator.result.iter.rest.now = search rules in
    ([], e ∙ sym (append-nil c.into_iter-line-iterator.result.iter.rest.now), grown_none c.args.plain (search rules))

pub extend-requires : goal.extend-requires
extend-requires c =
    let l = c.loop-line.invariant in
    let b = bounded c.next.new.self.iter.rest.now l.0 c.in-Some.line.now c.requires (moved c.next.new.self.iter.rest.now l.0 c.in-Some.line.now l.1 c.in-Some.ensures.steps) in
    (b.1, omega (arith, b.0, b.1))

pub loop-line-preserved : goal.loop-line-preserved
unfolding lowered
loop-line-preserved c =
    let l = c.loop-line.invariant in let d = c.in-Some.line.now in
    let e = moved c.next.new.self.iter.rest.now l.0 c.in-Some.line.now l.1 c.in-Some.ensures.steps in
    let b = bounded c.next.new.self.iter.rest.now l.0 d c.requires e in (
      d ∷ l.0,
      e,
      rw c.extend.ensures (grown_line c.args.plain c.loop-line.r (lowered l.0) (lowered (d ∷ l.0)) d.senior d.junior b.1 (omega (arith, b.0, b.1)) l.2 (λ t. refl)),
    )

pub returns : goal.returns
returns c =
    let l = c.loop-line.invariant in let xs = c.args.lines.now in
    let rest = c.loop-line.line-iterator.iter.rest.now in
    let e : xs ≡ l.0 = all_done rest l.0 l.1 c.in-None.ensures.steps.0 in
    grown_stands c.args.plain c.loop-line.r (lowered xs) (held_or_senior xs) (rw e l.2)
    (has-lowered most_values xs c.requires) (held_or_senior-none most_values xs c.requires)
