-- `formula::side::with_seniors` meets its contract: in every lane what the lines from a place on make of r is what all of
-- them make of the set.
use Prim.Native.Nat.{ℕ}
use mathlib.Core.Path.{◌≡◌, refl}
use native.Mathlib.Omega.{arith}
use borrow.Author.Rules.{rules}
use lib.ListN.{get_or, drop_of_length-le}
use Rattle.basis.proofs.Lists.{get_or-in}
use Rattle.basis.proofs.Walk.{rest-next}
use Rattle.seniority.specs.Seniority.{direct, held_or_junior}
use Rattle.seniority.specs.Inner.{extended}
use Rattle.seniority.proofs.Laws.{raised, has-raised, held_or_junior-none, ordered-line}
use Rattle.policy.specs.Limits.{most_values}
use Rattle.formula.proofs.Vectors.{grown_none, grown_line, grown_stands}
use Rattle.formula.proofs.side.with_seniors.Goals as goal

pub loop-line-init : goal.loop-line-init
loop-line-init c = ((λ s. s), grown_none c.args.plain (search rules), λ s. refl)

pub extend-requires : goal.extend-requires
extend-requires c =
    let xs = c.args.lines.now in let i = c.loop-line.line-index in
    let b = ordered-line most_values xs c.requires (get_or xs i (direct 0 0)) (get_or-in xs i (direct 0 0) c.loop-line-test.true) in
    (omega arith, omega arith)

pub loop-line-preserved : goal.loop-line-preserved
unfolding raised
loop-line-preserved c =
    let l = c.loop-line in let xs = c.args.lines.now in let i = l.line-index in
    let d = get_or xs i (direct 0 0) in
    let b = ordered-line most_values xs c.requires d (get_or-in xs i (direct 0 0) c.loop-line-test.true) in
    let f : ℕ → ℕ = l.invariant.0 in
    let g : ℕ → ℕ = λ t. extended (f t) d.junior d.senior in (
      g,
      rw c.extend.ensures (grown_line c.args.plain l.r f g d.junior d.senior (omega arith) b.1 l.invariant.1 (λ t. refl)),
      λ t. rw (rest-next (direct 0 0) xs i c.loop-line-test.true) at (l.invariant.2 t),
    )

pub returns : goal.returns
unfolding raised
returns c =
    let l = c.loop-line in let xs = c.args.lines.now in let o = c.requires in
    grown_stands c.args.plain l.r l.invariant.0 (held_or_junior xs) l.invariant.1
    (λ s v.
    let e : l.invariant.0 s ≡ raised xs s = rw (drop_of_length-le xs c.loop-line-test.false) at (l.invariant.2 s) in
    rw e (has-raised most_values xs o s v))
    (held_or_junior-none most_values xs o)
