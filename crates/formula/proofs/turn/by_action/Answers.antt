-- `formula::turn::by_action` meets its contract: each turn puts one row more.
use Prim.Native.Nat.{◌+◌}
use native.Mathlib.Nat.{mod-lt}
use native.Mathlib.Omega.{arith}
use lib.ListN.{get_or}
use lib.Pow.{pow_pos}
use Rattle.formula.specs.Inner.Group.{group_size}
use Rattle.formula.proofs.Squares.{rows_next, has_part}
use Rattle.formula.proofs.turn.by_action.Goals as goal

pub loop-a-preserved : goal.loop-a-preserved
loop-a-preserved c =
    let l = c.loop-a in let b = c.args in
    (omega arith, rows_next _ l.a l.r _ (omega arith) l.invariant.1 (mod-lt _ (pow_pos group_size)) (λ j h. has_part (get_or b.granted.now (b.from + l.a) 0) b.q j h))
