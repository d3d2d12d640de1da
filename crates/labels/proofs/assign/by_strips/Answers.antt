-- `labels::assign::by_strips` meets its contract: the rows that the object sets are labelled by are one of each label.
use Prim.Native.Nat.{◌<◌}
use mathlib.Core.Bool.{true}
use native.Mathlib.Nat.{lt_of_lt_of_le}
use native.Mathlib.Omega.{arith}
use lib.Pow.{pow_pos}
use Rattle.labels.proofs.Compiling.{like_users-equivalence}
use Rattle.labels.proofs.Turn.{labelled-few, labelled-leads}
use Rattle.labels.proofs.Storing.{first-chosen, objects-by_strips}
use Rattle.labels.proofs.assign.by_strips.Goals as goal

pub leading-requires : goal.leading-requires
leading-requires c =
    let s = c.requires in
    let v = s.1.2 in
    omega (arith, labelled-few (c.users_by_strips.ensures _ s.1.1 v), v.users, v.few-users)

pub part-requires : goal.part-requires
part-requires c =
    let s = c.requires in
    let v = s.1.2 in
    let u = c.users_by_strips.ensures _ s.1.1 v in
    let e = c.leading.ensures in (
      (s.1.0, s.1.1, rw s.0 v.objects),
      rw v.objects (pow_pos _),
      v.few-objects,
      omega (arith, e.0, labelled-few u, v.users, v.few-users),
      λ i h.
          let l : i < c.users_by_strips.new.users.count = omega (arith, e.0) in
          rw (e.1 i l) (lt_of_lt_of_le ((labelled-leads (like_users-equivalence _ _) u).row i l) (rw (← v.users) v.few-users)),
      s.3,
    )

pub returns : goal.returns
returns c = λ p rows v.
    let s = c.requires in
    let u = c.users_by_strips.ensures p rows v in
    let e = c.leading.ensures in
    record {
      users = u;
      objects = objects-by_strips v u (first-chosen p true _ _ _ e.0 e.1 (rw s.0 at (c.part.ensures p rows (rw s.0 v.objects))));
    }
