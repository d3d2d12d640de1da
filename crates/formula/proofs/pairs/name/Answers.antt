-- `formula::pairs::name` meets its contract.
use mathlib.Core.Path.{◌∙◌}
use lib.Dec.{eqb}
use lib.ListN.{take}
use Rattle.std.proofs.Common.{rules, tests}
use Rattle.std.proofs.lemmas.Iterator.{YieldsList-from_slice}
use Rattle.std.proofs.lemmas.Iterator.Search.{any_from_yields_List}
use Rattle.policy.specs.Value.{pairs_of}
use Rattle.formula.proofs.Pairing.{any-list}
use Rattle.formula.proofs.pairs.name.Goals as goal

pub returns : goal.returns
unfolding pairs_of
returns c =
    let xs = take c.args.pairs.count c.args.pairs.entries in
    any_from_yields_List (λ x. eqb x.action c.args.action) _ _ c.any.result c.any.ensures.ran (YieldsList-from_slice xs cc) (λ x b q k. search (rules, tests))
    ∙ any-list (λ x. eqb x.action c.args.action) xs
