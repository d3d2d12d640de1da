-- Check 11 on a board: its entries in reach, place by place, and within every conflict, together as the definition
-- says.
use Rattle.std.specs.Prelude.{Option, None, Some}
use Prim.Native.Nat.{ℕ, ◌+◌, ◌≤◌, ◌<◌}
use mathlib.Core.Path.{◌≡◌, refl, sym, ◌∙◌}
use mathlib.Core.Bool.{Bool, true, false, not, cond, ◌&&◌, ◌||◌, and-false, and_assoc}
use mathlib.Core.List.{List, [], ◌∷◌, map}
use lib.Dec.{eqb}
use lib.ListN.{length, get_or, drop, drop_of_length-le}
use borrow.Author.Tests.{ne_eqb}
use Rattle.basis.specs.Choice.{given, there}
use Rattle.basis.specs.Lists.{all, any}
use Rattle.basis.proofs.Bools.{and_left}
use Rattle.basis.proofs.Walk.{rest-next}
use Rattle.sets.specs.Set.{within}
use Rattle.policy.specs.Policy.{Policy, set_of_number}
use Rattle.policy.specs.Value.{side_of, entries_of, conflicts_of, policy_of}
use Rattle.policy.specs.Valid.{valid}
use Rattle.policy.specs.declared.value.SideValue.{SideValue}
use Rattle.policy.specs.declared.value.PolicyValue.{PolicyValue}
use Rattle.board.specs.declared.Session.{Session}
use Rattle.board.specs.declared.Board.{Board}
use Rattle.board.specs.Machine.{Entry, entry, held_in, reach_of, too_many}
use Rattle.board.specs.Board.{closed, entry_of, entry_fits, sessions_fit, board_fits, fits}
use Rattle.board.specs.Inner.{covered, over, held_at, reached, all_reached}
use Rattle.board.proofs.Users.{covers_user}
use Rattle.board.proofs.Judging.{judges, none_kept}

-- ---- in reach

abbrev pub reached_in : Policy → Session → Bool
reached_in p x = given (entry_of x) true (reached p)

module _ (p : Policy) (x : Session) where
  pub reached-live : (side : SideValue) → p.user ≡ side_of side → (f : Option ℕ) → f ≡ set_of_number p.users x.user → (x.live ≡ 0 → ⊥)
      → (t : Bool) → t ≡ covered side f x.held → t ≡ reached_in p x
  reached-live side es f q l t e = rw (ne_eqb x.live 0 l) (e ∙ covers_user p side es x.user f q x.held)

-- the entries from place i on
module _ (p : Policy) (xs : List Session) (i : ℕ) where
  next : i < length xs → all (reached_in p) (drop i xs) ≡ (reached_in p (get_or xs i closed) && all (reached_in p) (drop (i + 1) xs))
  unfolding all
  next h = rw (rest-next closed xs i h)

  pub next-fails : i < length xs → reached_in p (get_or xs i closed) ≡ false → all (reached_in p) (drop i xs) ≡ false
  next-fails h e = next h ∙ rw e

  pub next-reached : i < length xs → reached_in p (get_or xs i closed) ≡ true → all (reached_in p) (drop i xs) ≡ all (reached_in p) (drop (i + 1) xs)
  next-reached h e = next h ∙ rw e

  pub none_left : length xs ≤ i → all (reached_in p) (drop i xs) ≡ true
  unfolding all
  none_left h = rw (drop_of_length-le xs h)

-- ---- within every conflict

apart : (a b c d : Bool) → ((a && not b) && (c && not d)) ≡ ((a && c) && not (b || d))
apart false b c d = refl
apart true true c d = sym (and-false c)
apart true false c d = refl

module _ (p : Policy) where
  entry-apart : (x : Session) → given (entry_of x) true (entry_fits p) ≡ (reached_in p x && not (too_many p (held_at x)))
  entry-apart x = go (eqb x.live 0)
    where
      go : (t : Bool) → let e : Option Entry = cond t None (Some (entry x.user x.held)) in
          given e true (entry_fits p) ≡ (given e true (reached p) && not (too_many p (held_in e)))
      go true = rw (none_kept p)
      go false = sym (and_assoc (there (set_of_number p.users x.user)) (within x.held (reach_of p x.user)) (not (too_many p x.held)))

  -- check 11 of the entries: all are in reach, and none is over a conflict
  fit_apart : (xs : List Session) → sessions_fit p xs ≡ (all_reached p xs && not (any (too_many p) (map held_at xs)))
  unfolding all any
  fit_apart [] = refl
  fit_apart (x ∷ xs) = rw (entry-apart x, fit_apart xs) (apart (reached_in p x) (too_many p (held_at x)) (all_reached p xs) (any (too_many p) (map held_at xs)))

-- ---- the value and the board

module _ (v : PolicyValue) (b : Board) where
  pub fits-valid : fits v b ≡ true → valid v ≡ true
  unfolding fits
  fits-valid e = and_left (valid v) _ e

  module _ (e : valid v ≡ true) (t : Bool) (h : (p : Policy) → p.users ≡ entries_of v.users → p.user ≡ side_of v.user → t ≡ all_reached p b.sessions) where
    parts-of : fits v b ≡ (t && not (any (too_many (policy_of v)) (map held_at b.sessions)))
    unfolding fits board_fits policy_of
    parts-of = rw (e, fit_apart (policy_of v) b.sessions, ← h (policy_of v) refl refl)

    pub fits-unreached : t ≡ false → false ≡ fits v b
    fits-unreached q = sym (parts-of ∙ rw q)

    pub fits-no_conflict : t ≡ true → v.conflicts.count ≡ 0 → true ≡ fits v b
    unfolding over any conflicts_of
    fits-no_conflict q k =
        sym (parts-of ∙ rw (q, ← judges v e (map held_at b.sessions), k))

    pub fits_kept : t ≡ true → (ss : List ℕ) → ss ≡ map held_at b.sessions → (o : Bool) → o ≡ over (conflicts_of v.conflicts) ss → not o ≡ fits v b
    fits_kept q ss k o w = sym (parts-of ∙ rw (q, ← k, ← judges v e ss, ← w))

  pub fits-invalid : valid v ≡ false → false ≡ fits v b
  unfolding fits
  fits-invalid e = rw e
