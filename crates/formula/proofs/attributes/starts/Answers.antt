-- `formula::attributes::starts` meets its contract: after i turns the first i + 1 entries are sums of widths, and
-- `next` is the last of them.
use Prim.Native.Nat.{◌+◌}
use mathlib.Core.Path.{◌≡◌, refl}
use native.Mathlib.Omega.{arith}
use lib.ListN.{length, take, length-set, length-take}
use borrow.Author.Rules.{rules}
use Rattle.basis.specs.Lists.{sum}
use Rattle.basis.proofs.Places.{stored_next}
use Rattle.policy.specs.Value.{width_places}
use Rattle.policy.specs.Policy.{total, start}
use Rattle.formula.proofs.Widths.{sum-le, width-in, width-out}
use Rattle.formula.proofs.attributes.starts.Goals as goal
use Rattle.formula.proofs.attributes.starts.Goals.{then-i-n, else-i-n}

pub loop-i-init : goal.loop-i-init
unfolding sum
loop-i-init c = (omega arith, refl, refl, λ j h. let e : j ≡ 0 = omega arith in rw e)

pub overflow_cast-next : goal.overflow_cast-next
overflow_cast-next c =
    let l = c.loop-i in
    omega (arith, width-in c.args.widths c.args.n l.i c.if-i-n.true, sum-le (take c.args.n c.args.widths) (l.i + 1))

pub overflow_add-next : goal.overflow_add-next
overflow_add-next c =
    let l = c.loop-i in
    omega (arith, width-in c.args.widths c.args.n l.i c.if-i-n.true, sum-le (take c.args.n c.args.widths) (l.i + 1))

pub loop-i-preserved : goal.loop-i-preserved
loop-i-preserved c =
    let a = c.args in let l = c.loop-i in
    let e : c.if-i-n.next ≡ sum (take (l.i + 1) (take a.n a.widths)) =
    elim c.if-i-n.branch [
      | then-i-n w ↦ omega (arith, w.next-is, width-in a.widths a.n l.i w.if-i-n.true)
      | else-i-n w ↦ omega (arith, w.next-is, width-out a.widths a.n l.i w.if-i-n.false)
    ] in (
      omega arith,
      simp length-set l.invariant.1,
      e,
      stored_next (λ j x. x ≡ sum (take j (take a.n a.widths))) 0 l.r (l.i + 1) c.if-i-n.next (omega arith) l.invariant.3 e,
    )

pub returns : goal.returns
unfolding total start
returns c s e =
    let a = c.args in let l = c.loop-i in
    let k : length a.widths ≡ width_places = search rules in
    record {
      few = rw e (omega (arith, length-take a.n a.widths));
      most = rw e c.requires;
      at = λ i h. rw e (l.invariant.3 i (omega arith));
    }
