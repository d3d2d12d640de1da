-- `board::conflicts::exceeded` meets its contract: folding by "or" says whether some set has too many values.
use Rattle.std.proofs.Common.{◌∙◌, Bool, false, ◌||◌, ltb, ℕ, rules}
use Rattle.std.specs.Int.Bits.{bit_and}
use Rattle.std.specs.Int.Count.{ones}
use Rattle.std.proofs.lemmas.Iterator.{YieldsList-from_slice}
use Rattle.std.proofs.lemmas.Iterator.Consumers.{fold_from_yields_List}
use borrow.Author.Tests.{tests}
use Rattle.board.specs.Inner.{exceeded}
use Rattle.board.proofs.Chains.{or-fold}
use Rattle.board.proofs.conflicts.exceeded.Goals as goal

pub returns : goal.returns
unfolding exceeded
returns c =
    let x = c.args.conflict in
    let folded = fold_from_yields_List _ (λ (b : Bool) (s : ℕ). b || ltb x.most (ones (bit_and x.set s))) false c.fold.result c.fold.ensures.ran (YieldsList-from_slice c.args.sets.now cc) (λ a x b q k. search (rules, tests)) in
    folded ∙ or-fold (λ s. ltb x.most (ones (bit_and x.set s))) c.args.sets.now
