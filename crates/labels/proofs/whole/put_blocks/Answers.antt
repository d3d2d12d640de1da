-- `labels::whole::put_blocks` meets its contract: each turn puts the entries of one block more.
use Prim.Native.Nat.{◌+◌, ◌*◌}
use mathlib.Core.Path.{◌≡◌, ap, ◌∙◌}
use native.Mathlib.Omega.{arith}
use Rattle.formula.specs.Inner.Lane.{lanes}
use Rattle.std.proofs.lemmas.Grind.{div_ceil_times}
use Rattle.labels.proofs.Entries.{lane-same}
use Rattle.labels.proofs.whole.put_blocks.Goals as goal

pub loop-b-preserved : goal.loop-b-preserved
loop-b-preserved c =
    let l = c.loop-b in let m = c.min-m.ensures in
    λ f old new i a b.
    c.put_lanes.ensures.1 f (λ j h. l.invariant f old new j h (omega (arith, m)))
    (λ k h.
    let s : c.args.start + (l.b * lanes + k) ≡ c.args.start + l.b * lanes + k = omega arith in
    lane-same c.in_block-block.result _ c.args.actions k c.in_block-block.ensures
    ∙ new l.b k (omega (arith, m, c.requires.0)) (omega (arith, m)) (omega (arith, m)) ∙ ap f s)
    i (omega (arith, m))

pub returns : goal.returns
returns c = (
  c.loop-b.auto.places,
  λ f old new i h. c.loop-b.invariant f old new i (omega (arith, c.div_ceil-b-end.ensures, c.loop-b-test.false, div_ceil_times c.args.count lanes (omega arith))) h,
)
