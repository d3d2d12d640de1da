-- `formula::pairs::of_action` meets its contract: r has the action's pairs before i, and the others are left.
use mathlib.Core.Path.{◌≡◌}
use lib.ListN.{length}
use Rattle.policy.specs.Limits.{most_values}
use Rattle.formula.proofs.Pairing.{PairedTo}
use Rattle.formula.proofs.pairs.of_action.Given as goal

abbrev pub invariant-loop-pair : goal.invariant-loop-pair
invariant-loop-pair l = (length l.r ≡ most_values) × PairedTo l.action l.pair-items l.pair-index l.r
