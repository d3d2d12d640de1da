-- `board::conflicts::over` meets its contract: the chain is the definition's.
use Rattle.std.proofs.Common.{◌∙◌, take, rules}
use Rattle.std.proofs.lemmas.Iterator.{YieldsList-from_slice}
use Rattle.std.proofs.lemmas.Iterator.Search.{any_from_yields_List}
use borrow.Author.Tests.{tests}
use Rattle.policy.specs.Value.{conflicts_of}
use Rattle.policy.specs.declared.value.Conflict.{Conflict}
use Rattle.board.specs.Inner.{exceeded, over}
use Rattle.board.proofs.Chains.{any-list}
use Rattle.board.proofs.conflicts.over.Goals as goal

pub returns : goal.returns
unfolding conflicts_of over
returns c =
    let xs = c.args.conflicts.now in
    let some = any_from_yields_List (λ (x : Conflict). exceeded x c.args.sets.now) _ _ c.any.result c.any.ensures.ran (YieldsList-from_slice (take xs.count xs.entries) cc) (λ x b q k. search (rules, tests)) in
    some ∙ any-list (λ (x : Conflict). exceeded x c.args.sets.now) (take xs.count xs.entries)
