-- The compiled buffers serve a policy: in them a request finds each look-up's place, and the bit there is what the
-- formula says.
use Prim.Native.Nat.{ℕ, ◌+◌, ◌*◌, ◌<◌}
use mathlib.Core.Path.{◌≡◌, ap₂}
use mathlib.Core.Bool.{false}
use native.Mathlib.Omega.{arith}
use borrow.Author.Tests.{lt-leb}
use lib.Arith.{digits_lt}
use lib.ListN.{length}
use Rattle.basis.specs.Lists.{over}
use Rattle.basis.proofs.Over.{over-long}
use Rattle.policy.specs.Limits.{actions}
use Rattle.policy.specs.Policy.{Policy, sets}
use Rattle.formula.specs.Truth.{Sets, grants}
use Rattle.labels.specs.Compile.{Buffers, NO, user_label, object_label, user_result, object_result, table_result, compiled, filled}
use Rattle.labels.proofs.Compiling.{length-user_result, length-object_result, length-table_result, user_label-below, object_label-below, user-at, object-at, compiled-grants}
use Rattle.board.specs.Board.{reads_past_end, grants_by_labels, place_at}
use Rattle.claims.specs.Demand3.{with_counts}

module _ (p : Policy) (b : Buffers) (s : Sets) (hu : s.user < sets p.user) (ho : s.object < sets p.object) where
  place_is : place_at (with_counts p (filled p b)) s ≡ user_label p s.user * NO p + object_label p s.object
  place_is = ap₂ (λ (x y : ℕ). x * NO p + y) (user-at p b s.user hu) (object-at p b s.object ho)

  place_inside : user_label p s.user * NO p + object_label p s.object < length (table_result p)
  place_inside = rw (length-table_result p) (digits_lt (user_label-below p s.user hu) (object_label-below p s.object ho))

  pub inside : reads_past_end (with_counts p (filled p b)) s ≡ false
  unfolding reads_past_end
  inside =
      let x : s.user < length (over (user_result p) b.users) = omega (arith, over-long (user_result p) b.users, length-user_result p) in
      let y : s.object < length (over (object_result p) b.objects) = omega (arith, over-long (object_result p) b.objects, length-object_result p) in
      let z : place_at (with_counts p (filled p b)) s < length (over (table_result p) b.table) =
      rw place_is (omega (arith, over-long (table_result p) b.table, place_inside)) in
      rw (lt-leb _ s.user x, lt-leb _ s.object y, lt-leb _ (place_at (with_counts p (filled p b)) s) z)

  pub decides : (a : ℕ) → a < actions p.form → grants_by_labels (with_counts p (filled p b)) a s ≡ grants p a s
  unfolding grants_by_labels compiled
  decides a ha = compiled-grants p b a s.user s.object ha hu ho
