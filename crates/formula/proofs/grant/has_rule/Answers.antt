-- `formula::grant::has_rule` meets its contract.
use mathlib.Core.Path.{◌∙◌}
use lib.Dec.{eqb}
use lib.ListN.{take}
use Rattle.std.proofs.Common.{rules, tests}
use Rattle.std.proofs.lemmas.Iterator.{YieldsList-from_slice}
use Rattle.std.proofs.lemmas.Iterator.Search.{any_from_yields_List}
use Rattle.policy.specs.Value.{rules_of}
use Rattle.formula.proofs.Granting.{own-rule}
use Rattle.formula.proofs.grant.has_rule.Goals as goal

pub returns : goal.returns
unfolding rules_of
returns c =
    let xs = take c.args.rules.count c.args.rules.entries in
    any_from_yields_List (λ r. eqb r.action c.args.action) _ _ c.any.result c.any.ensures.ran (YieldsList-from_slice xs cc) (λ x b q k. search (rules, tests))
    ∙ own-rule c.args.action xs
