-- Working out a user's reach.
use Rattle.std.specs.Prelude.{Option, None, Some, is_some, unwrap_or}
use Prim.Native.Nat.{ℕ, ◌<◌}
use mathlib.Core.Path.{◌≡◌, refl, ap}
use mathlib.Core.Bool.{Bool, true, false, ◌&&◌}
use lib.ListN.{take}
use Rattle.basis.specs.Choice.{given, there}
use Rattle.sets.specs.Set.{has, within}
use Rattle.seniority.specs.Seniority.{held_or_senior, reach}
use Rattle.seniority.specs.Inner.{Ordered, word_bits}
use Rattle.seniority.proofs.Laws.{ordered-more, reach-is, assigned-reached}
use Rattle.policy.specs.Policy.{Policy, total, sets, set_of_number}
use Rattle.policy.specs.Value.{side_of, entries_of}
use Rattle.policy.specs.declared.value.SideValue.{SideValue}
use Rattle.policy.specs.declared.value.Register.{Register}
use Rattle.board.specs.Machine.{reach_of}
use Rattle.board.specs.Inner.{reach_if, covered, Rising, Reachable}

-- the reach of an assigned set
abbrev pub reach_in : SideValue → ℕ → ℕ
reach_in side s = reach (side_of side).lines (total (side_of side)) s

-- what working out juniors asks of the lines
pub juniors_ask : (side : SideValue) → Rising side → Ordered word_bits (take side.lines side.seniority)
unfolding side_of
juniors_ask side h = ordered-more (total (side_of side)) word_bits h.values (side_of side).lines h.ordered

-- a user's reach, from the set that is found
module _ (users : Register) (side : SideValue) (h : Reachable side users) (u : ℕ)
    (p : Policy) (eu : p.users ≡ entries_of users) (es : p.user ≡ side_of side) where
  pub reach-none : set_of_number (entries_of users) u ≡ None → None ≡ reach_if p u
  unfolding reach_if
  reach-none n = rw (eu, n)

  pub reach-found : (s : ℕ) → set_of_number (entries_of users) u ≡ Some s
      → (r : ℕ) → ((v : ℕ) → has r v ≡ held_or_senior (take side.lines side.seniority) s v) → Some r ≡ reach_if p u
  unfolding reach_if side_of
  reach-found s n r e =
      rw (eu, es, n)
      (ap {B = Option ℕ} Some (reach-is (total (side_of side)) (side_of side).lines h.seniority.ordered s (h.assigned u s n) r e))

-- the library's words
pub is_there : (x : Option ℕ) → is_some x ≡ there x
is_there None = refl
is_there (Some s) = refl

pub or_none : (x : Option ℕ) → unwrap_or x 0 ≡ given x 0 (λ s. s)
or_none None = refl
or_none (Some s) = refl

-- whether the user is registered, and the reach, by the definition
pub reach-there : (p : Policy) (u : ℕ) → there (reach_if p u) ≡ there (set_of_number p.users u)
unfolding reach_if
reach-there p u = go (set_of_number p.users u)
  where
    go : (x : Option ℕ) → there (given {B = Option ℕ} x None (λ s. Some (reach p.user.lines (total p.user) s))) ≡ there x
    go None = refl
    go (Some s) = refl

pub reach-set : (p : Policy) (u : ℕ) → given (reach_if p u) 0 (λ s. s) ≡ reach_of p u
unfolding reach_if reach_of
reach-set p u = go (set_of_number p.users u)
  where
    go : (x : Option ℕ) → given (given {B = Option ℕ} x None (λ s. Some (reach p.user.lines (total p.user) s))) 0 (λ s. s)
        ≡ given x 0 (reach p.user.lines (total p.user))
    go None = refl
    go (Some s) = refl

-- the answer of the test by reach, for each way out
module _ (side : SideValue) (h : Rising side) (f : Option ℕ) (b : given f 0 (λ s. s) < sets (side_of side)) (set : ℕ) where
  pub covers_none : f ≡ None → false ≡ covered side f set
  unfolding covered
  covers_none e = rw e

  module _ (s : ℕ) (e : f ≡ Some s) where
    assigned-lt : s < sets (side_of side)
    assigned-lt = rw e at b

    pub covers_assigned : within set s ≡ true → true ≡ covered side f set
    unfolding covered
    covers_assigned w = rw (e, assigned-reached (total (side_of side)) (side_of side).lines h.ordered s assigned-lt set w)

    pub covers_reached : (r : ℕ) → ((v : ℕ) → has r v ≡ held_or_senior (take side.lines side.seniority) s v)
        → (x : Bool) → x ≡ within set r → x ≡ covered side f set
    unfolding side_of covered
    covers_reached r q x w = rw (e, ← reach-is (total (side_of side)) (side_of side).lines h.ordered s assigned-lt r q) w

-- what is found for a user answers for the user
pub covers_user : (p : Policy) (side : SideValue) → p.user ≡ side_of side → (u : ℕ) (f : Option ℕ) → f ≡ set_of_number p.users u → (set : ℕ)
    → covered side f set ≡ (there (set_of_number p.users u) && within set (reach_of p u))
unfolding covered reach_of
covers_user p side es u f q set = rw (q, es) (go (set_of_number p.users u))
  where
    go : (x : Option ℕ) → given x false (λ s. within set (reach_in side s)) ≡ (there x && within set (given x 0 (reach_in side)))
    go None = refl
    go (Some s) = refl
