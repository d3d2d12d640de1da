-- `formula::both::Blocks::add_pairs` meets its contract: the pairs before i have been added, and the others are left.
use mathlib.Core.Path.{◌∙◌}
use mathlib.Core.Bool.{◌&&◌}
use native.Mathlib.Omega.{arith}
use lib.Dec.{eqb}
use lib.ListN.{take}
use Rattle.policy.specs.Limits.{most_actions}
use Rattle.policy.specs.Value.{pairs_of}
use Rattle.formula.specs.Truth.{pair_holds}
use Rattle.formula.specs.Inner.Lane.{in_block}
use Rattle.formula.proofs.Pairing.{pair-at, later-none, leads-next}
use Rattle.formula.proofs.Placing.{place-room}
use Rattle.formula.proofs.both.Blocks.add_pairs.Goals as goal

pub add_held-requires : goal.add_held-requires
add_held-requires c =
    let l = c.loop-pair in let f = pair-at most_actions c.args.pairs c.requires.0 l.pair-index c.loop-pair-test.true in
    (f.user, f.object, place-room most_actions _ _ _ (omega (arith, c.requires.1, l.invariant.0)) f.action)

pub loop-pair-preserved : goal.loop-pair-preserved
loop-pair-preserved c =
    let l = c.loop-pair in let x = c.add_held.ensures in (
      x.long ∙ l.invariant.0,
      λ b h p k s y. leads-next p s (take c.args.pairs.count c.args.pairs.entries) l.pair-index c.loop-pair-test.true k x h (x.here b h p k s y) _ (l.invariant.1 b h p k s y),
    )

pub returns : goal.returns
unfolding pairs_of
returns c =
    let l = c.loop-pair in let xs = take c.args.pairs.count c.args.pairs.entries in (
      l.invariant.0,
      λ b h p k s x a g.
          later-none (λ y. eqb y.action a && pair_holds p s y) xs l.pair-index (in_block l.granted c.args.self.now.count b a) k c.loop-pair-test.false ∙ l.invariant.1 b h p k s x a g,
    )
