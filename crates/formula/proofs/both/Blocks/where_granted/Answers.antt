-- `formula::both::Blocks::where_granted` meets its contract: by its rule and then, where there are any, by its pairs.
use mathlib.Core.Path.{sym, ◌∙◌}
use native.Mathlib.Omega.{arith}
use Rattle.formula.proofs.Pairing.{none-paired}
use Rattle.formula.proofs.both.Blocks.where_granted.Goals as goal

pub returns-else-not-none_paired : goal.returns-else-not-none_paired
returns-else-not-none_paired c =
    let x = c.where_true-d.ensures in (
      omega (arith, x.0, c.requires.1),
      x.1,
      λ b h p k s z. x.2 b h p k s z ∙ none-paired _ p s c.args.grant.paired (sym c.none_paired.ensures ∙ c.if-not-none_paired.false),
    )
