-- `labels::place` meets its contract: a label and a count are below 2^32, so nothing wraps.
use Prim.Native.Nat.{◌*◌, ◌≤◌}
use native.Mathlib.Nat.{mul-le-mul}
use native.Mathlib.Omega.{arith}
use Rattle.labels.proofs.place.Goals as goal

small : (c : goal.After-struct_known-1) → c.args.user.0 * c.args.objects ≤ 4294967295 * 4294967295
small c =
    let u : c.args.user.0 ≤ 4294967295 = omega arith in
    let n : c.args.objects ≤ 4294967295 = omega arith in
    mul-le-mul u n

pub overflow_mul-result : goal.overflow_mul-result
overflow_mul-result c = omega (arith, small c)

pub overflow_add-result : goal.overflow_add-result
overflow_add-result c = omega (arith, small c.before)
