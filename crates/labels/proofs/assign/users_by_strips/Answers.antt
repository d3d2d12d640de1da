-- `labels::assign::users_by_strips` meets its contract: the chosen object sets are all of them.
use Prim.Native.Nat.{◌≤◌, ◌<◌}
use mathlib.Core.Bool.{false}
use native.Mathlib.Nat.{lt_of_lt_of_le}
use native.Mathlib.Omega.{arith}
use lib.ListN.{length}
use lib.Pow.{pow_pos}
use Rattle.std.proofs.lemmas.List.{length-take-le, get_or-take}
use Rattle.labels.proofs.Storing.{first-chosen, users-by_strips}
use Rattle.labels.proofs.assign.users_by_strips.Goals as goal

pub part-requires : goal.part-requires
part-requires c =
    let s = c.requires in
    let v = s.1.2 in
    let r = c.turned-columns.ensures in
    let e = c.every-every in
    let n = c.args.view.columns in
    let long : n ≤ length e.result = omega (arith, v.few-objects) in
    let size = length-take-le n e.result long in (
      (s.1.0, r.1 _ s.1.1, rw r.0 v.users),
      rw v.users (pow_pos _),
      v.few-users,
      omega (arith, size, v.few-objects),
      λ i h. let l : i < n = omega (arith, size) in rw (get_or-take n e.result i 0 l, e.ensures i l) (lt_of_lt_of_le l v.few-objects),
      s.2,
    )

pub returns : goal.returns
returns c = λ p rows v.
    let r = c.turned-columns.ensures in
    let e = c.every-every in
    let n = c.args.view.columns in
    users-by_strips v e.result e.ensures
    (first-chosen p false e.result _ n (length-take-le n e.result (omega (arith, v.few-objects))) (λ i h. get_or-take n e.result i 0 h) (rw r.0 at (c.part.ensures p (r.1 p rows) (rw r.0 v.users))))
