-- `formula::pairs::of_action` meets its contract: r has the action's pairs before i, and the others are left.
use Prim.Native.Nat.{ℕ, ◌*◌, ◌%◌, ◌^◌, ◌<◌}
use mathlib.Core.Path.{◌≡◌, ◌∙◌}
use native.Mathlib.Nat.{one-mul}
use native.Mathlib.Omega.{arith}
use lib.Dec.{lit<}
use lib.ListN.{get_or, take, length-set}
use lib.Pow.{shl_exact}
use Rattle.seniority.specs.Inner.{word_bits}
use Rattle.policy.specs.Limits.{most_values}
use Rattle.policy.specs.Value.{pairs_of}
use Rattle.formula.proofs.Pairing.{pair-at, paired_own, paired_other, later-none, is_at}
use Rattle.formula.proofs.pairs.of_action.Goals as goal
use Rattle.formula.proofs.pairs.of_action.Goals.{then-pair-action, else-pair-action}

shifted : (w : ℕ) → w < most_values → (1 * 2 ^ w) % 2 ^ word_bits ≡ 2 ^ w
shifted w h = shl_exact 1 w word_bits (lit< tt) (omega arith) ∙ one-mul (2 ^ w)

pub bounds-r-v : goal.bounds-r-v
bounds-r-v c = omega (arith, (pair-at c.requires.0 c.args.pairs c.requires.1 c.loop-pair.pair-index c.loop-pair-test.true).user, c.loop-pair.invariant.0)

pub overflow_shl-r : goal.overflow_shl-r
overflow_shl-r c = omega (arith, (pair-at c.requires.0 c.args.pairs c.requires.1 c.loop-pair.pair-index c.loop-pair-test.true).object)

pub bounds-r-v-then-pair-action : goal.bounds-r-v-then-pair-action
bounds-r-v-then-pair-action c = omega (arith, (pair-at c.requires.0 c.args.pairs c.requires.1 c.loop-pair.pair-index c.loop-pair-test.true).user, c.loop-pair.invariant.0)

pub loop-pair-preserved : goal.loop-pair-preserved
loop-pair-preserved c =
    let l = c.loop-pair in let a = c.args.action in let xs = take c.args.pairs.count c.args.pairs.entries in let h = c.loop-pair-test.true in let i = l.invariant in
    let f = pair-at c.requires.0 c.args.pairs c.requires.1 l.pair-index h in
    elim c.if-pair-action.branch [
      | then-pair-action y ↦ rw y.r-is (simp length-set i.0, paired_own a xs l.pair-index h l.r i.1 y.if-pair-action.true (omega (arith, f.user, i.0)) _ (shifted _ f.object))
      | else-pair-action y ↦ rw y.r-is (i.0, paired_other a xs l.pair-index h l.r i.1 y.if-pair-action.false)
    ]

pub returns : goal.returns
unfolding pairs_of
returns c v w h g =
    let l = c.loop-pair in let xs = take c.args.pairs.count c.args.pairs.entries in
    later-none (is_at c.args.action v w) xs l.pair-index (get_or l.r v 0) w c.loop-pair-test.false ∙ l.invariant.1 v w h g
