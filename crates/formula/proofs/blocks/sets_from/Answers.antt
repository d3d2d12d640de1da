-- `formula::blocks::sets_from` meets its contract: the sets are the lowest part of the numbers.
use Prim.Native.Nat.{◌+◌, ◌*◌}
use native.Mathlib.Nat.{div-one}
use Rattle.formula.specs.Inner.Lane.{lanes}
use Rattle.formula.proofs.blocks.sets_from.Goals as goal

pub returns : goal.returns
returns c k h =
    let a = c.args in rw (← div-one (a.b * lanes + k)) (c.closed.ensures k _ (c.part.ensures k h))
