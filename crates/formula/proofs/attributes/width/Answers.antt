-- `formula::attributes::width` meets its contract: the next attribute starts a width above this one.
use native.Mathlib.Omega.{arith}
use Rattle.formula.proofs.Widths.{start-next}
use Rattle.formula.proofs.attributes.width.Goals as goal

pub overflow_sub-result : goal.overflow_sub-result
overflow_sub-result c =
    let s = c.requires.0 in let x = c.requires.1 in
    omega (arith, c.start.ensures s x, c.start-2.ensures s x, start-next s c.args.i)

pub returns : goal.returns
returns c s x = omega (arith, c.start.ensures s x, c.start-2.ensures s x, start-next s c.args.i)
