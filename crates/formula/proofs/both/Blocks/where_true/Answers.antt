-- `formula::both::Blocks::where_true` meets its contract: in every lane the stack is what running the first i words leaves on a
-- stack on which false lies.
use Prim.Native.Nat.{ℕ}
use mathlib.Core.Path.{◌≡◌, refl, sym, ap, ◌∙◌}
use mathlib.Core.Bool.{Bool}
use mathlib.Core.List.{[], ◌∷◌, map}
use native.Mathlib.Omega.{arith}
use lib.ListN.{take}
use Rattle.std.proofs.lemmas.List.{take_all}
use Rattle.words.specs.Word.{numbered}
use Rattle.sets.specs.Set.{has}
use Rattle.sets.proofs.Laws.{has-zero}
use Rattle.policy.specs.Value.{words_in}
use Rattle.formula.specs.Truth.{top, run}
use Rattle.formula.specs.Inner.Lane.{in_block, column}
use Rattle.formula.proofs.Stack.{top-on, column-put, column-next, truth-from}
use Rattle.formula.proofs.both.Blocks.where_true.Goals as goal

pub loop-number-init : goal.loop-number-init
unfolding run column
loop-number-init c =
    let x = c.fill.ensures in (
      omega arith,
      refl,
      λ b h p k s y. column-put _ b 0 x h k ∙ ap (λ (e : Bool). e ∷ []) (ap (λ (z : ℕ). has z k) (x.here b h) ∙ has-zero k),
    )

pub loop-number-preserved : goal.loop-number-preserved
loop-number-preserved c =
    let l = c.loop-number in let w = c.work-d in (
      omega (arith, w.ensures.0, l.invariant.0),
      w.ensures.1 ∙ l.invariant.1,
      λ b h p k s y.
          column-next p s (take c.args.rule.count c.args.rule.words) l.number-index c.loop-number-test.true c.from.ensures (l.invariant.2 b h p k s y)
          (w.ensures.2 b h p k s y),
    )

pub returns : goal.returns
returns c =
    let l = c.loop-number in let r = c.args.rule in let ns = take r.count r.words in (
      omega (arith, l.invariant.0),
      l.invariant.1 ∙ c.fill.ensures.long,
      λ b h p k s y.
          let e : words_in l.number-index ns ≡ words_in r.count r.words = ap (map numbered) (take_all l.number-index ns c.loop-number-test.false) in
          sym (top-on (in_block l.stack c.args.self.now.count b) l.d k) ∙ ap top (rw e at (l.invariant.2 b h p k s y)) ∙ truth-from p s (words_in r.count r.words),
    )
