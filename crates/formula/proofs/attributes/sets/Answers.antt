-- `formula::attributes::sets` meets its contract: past the last attribute stands the number of values.
use Prim.Native.Nat.{◌^◌}
use mathlib.Core.Path.{ap, ◌∙◌}
use native.Mathlib.Nat.{one-mul}
use native.Mathlib.Omega.{arith}
use lib.Dec.{lit<}
use lib.ListN.{get_or}
use lib.Pow.{shl_exact}
use Rattle.policy.specs.Limits.{most_values}
use Rattle.formula.proofs.Widths.{values-at}
use Rattle.formula.proofs.attributes.sets.Goals as goal

pub overflow_shl-result : goal.overflow_shl-result
overflow_shl-result c = omega (arith, c.requires.1.most, values-at c.requires.0 c.args.starts c.requires.1)

pub returns : goal.returns
returns c s x =
    let v = get_or c.args.starts most_values 0 in
    shl_exact 1 v 32 (lit< tt) (omega (arith, x.most, values-at s c.args.starts x)) ∙ one-mul (2 ^ v) ∙ ap (λ n. 2 ^ n) (values-at s c.args.starts x)
