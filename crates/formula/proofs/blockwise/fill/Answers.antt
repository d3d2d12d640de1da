-- `formula::blockwise::fill` meets its contract, number by number.
use mathlib.Core.Path.{refl}
use native.Mathlib.Omega.{arith}
use Rattle.formula.proofs.Placing.{placing_next, placing_all}
use Rattle.formula.proofs.blockwise.fill.Goals as goal

pub loop-b-preserved : goal.loop-b-preserved
loop-b-preserved c = let l = c.loop-b in (omega arith, placing_next l.invariant.1 _ (omega (arith, c.requires)) refl)

pub returns : goal.returns
returns c = placing_all c.loop-b.invariant.1 (omega arith)
