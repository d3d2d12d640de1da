-- `report::lines::run_length` meets its contract: it is the lesser of what the set and the word leave.
use Prim.Native.Nat.{◌%◌, ◌^◌, ◌<◌}
use native.Mathlib.Nat.{mod-lt}
use native.Mathlib.Omega.{arith}
use lib.Dec.{lit<}
use lib.Pow.{pow_pos}
use Rattle.formula.specs.Inner.Lane.{lanes}
use Rattle.report.proofs.Pieces.{shl_one}
use Rattle.report.proofs.lines.run_length.Goals as goal

pub overflow_sub-of_set : goal.overflow_sub-of_set
overflow_sub-of_set c =
    let v = c.args.values in
    let l : c.args.t % 2 ^ v < 2 ^ v = mod-lt c.args.t (pow_pos v) in
    omega (arith, shl_one v c.requires, l, c.object_set.ensures)

pub returns : goal.returns
returns c =
    let a = c.args in
    let e = shl_one a.values c.requires in
    let l : a.t % 2 ^ a.values < 2 ^ a.values = mod-lt a.t (pow_pos a.values) in
    let m : a.x % lanes < lanes = mod-lt a.x (lit< tt) in
    let o = c.object_set.ensures in
    (omega (arith, e, l, o, m), omega (arith, e, l, o), omega (arith, m))
