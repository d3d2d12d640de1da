-- `labels::whole::put_lanes` meets its contract: each turn puts the entries of eight lanes more.
use Prim.Native.Nat.{◌+◌, ◌*◌, ◌<◌}
use mathlib.Core.Path.{◌≡◌, ap, ◌∙◌}
use native.Mathlib.Omega.{arith}
use Rattle.formula.specs.Inner.Group.{group_size}
use Rattle.std.proofs.lemmas.List.{length-take, get_or-take}
use Rattle.std.proofs.lemmas.Grind.{div_ceil_times}
use Rattle.labels.proofs.whole.put_lanes.Goals as goal

pub loop-q-preserved : goal.loop-q-preserved
loop-q-preserved c =
    let l = c.loop-q in let x = c.put.ensures in let q = length-take c.min-m.result c.entries-eight.result in let m = c.min-m.ensures in
    λ f old new i a b.
    x.1 f (λ j h. l.invariant f old new j h (omega (arith, m)))
    (λ k h.
    let b : k < c.min-m.result = omega (arith, q) in
    let e : group_size * l.q + k ≡ l.q * group_size + k = omega arith in
    let s : c.args.start + (l.q * group_size + k) ≡ c.args.start + l.q * group_size + k = omega arith in
    get_or-take c.min-m.result c.entries-eight.result k 0 b ∙ c.entries-eight.ensures k (omega (arith, m)) ∙ rw e (new (l.q * group_size + k) (omega (arith, m)) ∙ ap f s))
    i (omega (arith, m, q))

pub returns : goal.returns
returns c = (
  c.loop-q.auto.places,
  λ f old new i h. c.loop-q.invariant f old new i (omega (arith, c.div_ceil-q-end.ensures, c.loop-q-test.false, div_ceil_times c.args.count group_size (omega arith))) h,
)
