-- What check 11 on the policy value gives the board: reach can be worked out, and registered sets are their side's.
use Rattle.std.specs.Prelude.{Option, None, Some}
use Prim.Native.Nat.{ℕ, ◌≤◌, ◌<◌}
use mathlib.Core.Path.{◌≡◌, refl, ap}
use mathlib.Core.Bool.{Bool, true, false, cond}
use mathlib.Core.List.{List, [], ◌∷◌, Memᴰ}
use native.Mathlib.Nat.{le_trans}
use native.Mathlib.Omega.{arith}
use lib.Dec.{eqb, lit≤}
use borrow.Author.Tests.{eqb-true}
use Rattle.policy.specs.Limits.{values, user_numbers}
use Rattle.policy.specs.Policy.{Side, sets, set_of_number}
use Rattle.policy.specs.Value.{entry_places, policy_of, side_value, register, value_of}
use Rattle.policy.specs.Valid.{valid}
use Rattle.policy.specs.Inner.Sound.{rising, number_above}
use Rattle.policy.specs.declared.value.Entry.{Entry}
use Rattle.policy.specs.declared.value.PolicyValue.{PolicyValue}
use Rattle.policy.proofs.Parts.{number_fits, Parts, parts, whole}
use Rattle.policy.proofs.Bounds.{Within, total-few, lines-ordered, entry-bounds, parts_within, sound-within}
use Rattle.policy.proofs.Valid.{valid-stored}
use Rattle.board.specs.Inner.{Reachable}

-- a set that is found is that of an entry with the number
set-in : (es : List Entry) (n s : ℕ) → set_of_number es n ≡ Some s → (e : Entry) × Memᴰ e es × (e.number ≡ n) × (e.set ≡ s)
unfolding set_of_number
set-in [] n s q = let z : ◌≡◌ {A = ℕ} 0 1 = cc in absurd (omega arith)
set-in (e ∷ es) n s q = go (eqb e.number n) refl (set-in es n s) q
  where
    go : (t : Bool) → eqb e.number n ≡ t → (set_of_number es n ≡ Some s → (e : Entry) × Memᴰ e es × (e.number ≡ n) × (e.set ≡ s))
        → ◌≡◌ {A = Option ℕ} (cond t (Some e.set) (set_of_number es n)) (Some s)
        → (d : Entry) × Memᴰ d (e ∷ es) × (d.number ≡ n) × (d.set ≡ s)
    go true w h f = (e, Memᴰ.head refl, eqb-true e.number n w, cc)
    go false w h f = let r = h f in (r.0, Memᴰ.tail r.1, r.2, r.3)

module _ (most : ℕ) (side : Side) (es : List Entry) (h : rising (number_fits most side) number_above None es ≡ true) (n s : ℕ)
    (q : set_of_number es n ≡ Some s) where
  number_lt : n < most
  number_lt = let r = set-in es n s q in rw r.2 at (entry-bounds most side es h r.0 r.1).0

  set-lt : s < sets side
  set-lt = let r = set-in es n s q in rw r.3 at (entry-bounds most side es h r.0 r.1).1

pub reachable : (v : PolicyValue) → valid v ≡ true → Reachable v.user v.users
unfolding policy_of value_of side_value register
reachable v e =
    let q = valid-stored v e in
    let p = policy_of v in
    let t : Parts p = parts p (whole p q.1).lists in
    let w : Within p = parts_within p t in
    record {
      seniority = record {
        lines = rw (ap (λ (x : PolicyValue). x.user.lines) q.0) at w.user.lines;
        values = le_trans (total-few p.form p.user t.user) (lit≤ tt);
        ordered = lines-ordered (values p.form) p.user t.user;
      };
      count = rw (ap (λ (x : PolicyValue). x.users.count) q.0) at w.users;
      numbers = number_lt user_numbers p.user p.users t.users;
      assigned = set-lt user_numbers p.user p.users t.users;
    }

pub objects-within : (v : PolicyValue) → valid v ≡ true → v.objects.count ≤ entry_places
unfolding policy_of value_of register
objects-within v e =
    let q = valid-stored v e in
    rw (ap (λ (x : PolicyValue). x.objects.count) q.0) at (sound-within (policy_of v) (whole (policy_of v) q.1).lists).objects
