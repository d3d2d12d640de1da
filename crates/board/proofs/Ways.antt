-- One law for each way out of a ruling: the checks before it pass and its own is broken; where it allows, none is.
use Rattle.std.specs.Prelude.{Option, None, Some, Ok, Err, is_some, unwrap_or}
use Prim.Native.Nat.{ℕ, ◌≤◌, ◌<◌}
use mathlib.Core.Path.{◌≡◌, refl, sym, ap, ◌∙◌}
use mathlib.Core.Bool.{Bool, true, false, not, cond}
use lib.Dec.{eqb}
use borrow.Author.Tests.{le-leb, lt-leb, eq-eqb, ne_eqb, not-true, not-false}
use Rattle.basis.specs.Choice.{given, there, first_broken}
use Rattle.basis.proofs.Choice.{first-broken-append}
use Rattle.sets.specs.Set.{union, within}
use Rattle.policy.specs.Limits.{actions, session_numbers}
use Rattle.policy.specs.Policy.{Policy, set_of_number}
use Rattle.formula.specs.Truth.{at}
use Rattle.formula.specs.Decide.{no_action}
use Rattle.board.specs.declared.Session.{Session}
use Rattle.board.specs.Machine.{Entry, opens, adds, closes, reach_of, object_set, out_of_reach, too_many, entry_after, checks}
use Rattle.board.specs.Board.{entry_of}
use Rattle.board.specs.Inner.{reach_if, set_checks, change_checks, asked}
use Rattle.board.proofs.Users.{is_there, or_none, reach-there, reach-set}

-- ---- close

module _ (p : Policy) (u s : ℕ) (x : Session) where
  pub close_unknown : session_numbers ≤ s → Some 13 ≡ first_broken (checks p (closes u s) (entry_of x))
  unfolding checks first_broken
  close_unknown n = rw (le-leb session_numbers s n)

  module _ (n : s < session_numbers) (g : Bool) (h : g ≡ there (set_of_number p.users u)) where
    pub close_unregistered : not g ≡ true → Some 14 ≡ first_broken (checks p (closes u s) (entry_of x))
    unfolding checks first_broken
    close_unregistered r = rw (lt-leb session_numbers s n, sym h ∙ not-true g r)

    module _ (r : not g ≡ false) where
      pub close_closed : x.live ≡ 0 → Some 17 ≡ first_broken (checks p (closes u s) (entry_of x))
      unfolding checks first_broken
      close_closed l = rw (lt-leb session_numbers s n, sym h ∙ not-false g r, eq-eqb x.live 0 l)

      module _ (l : x.live ≡ 0 → ⊥) where
        pub close_other : (x.user ≡ u → ⊥) → Some 18 ≡ first_broken (checks p (closes u s) (entry_of x))
        unfolding checks first_broken
        close_other o = rw (lt-leb session_numbers s n, sym h ∙ not-false g r, ne_eqb x.live 0 l, ne_eqb x.user u o)

        pub close_allowed : x.user ≡ u → None ≡ first_broken (checks p (closes u s) (entry_of x))
        unfolding checks first_broken
        close_allowed o = rw (lt-leb session_numbers s n, sym h ∙ not-false g r, ne_eqb x.live 0 l, eq-eqb x.user u o)

-- ---- open

module _ (p : Policy) (u s set : ℕ) (x : Session) where
  pub open_unknown : session_numbers ≤ s → Some 13 ≡ first_broken (checks p (opens u s set) (entry_of x))
  unfolding checks first_broken
  open_unknown n = rw (le-leb session_numbers s n)

  module _ (n : s < session_numbers) (f : Option ℕ) (h : f ≡ reach_if p u) where
    registered : there (set_of_number p.users u) ≡ there f
    registered = sym (ap there h ∙ reach-there p u)

    pub open_unregistered : f ≡ None → Some 14 ≡ first_broken (checks p (opens u s set) (entry_of x))
    unfolding checks first_broken
    open_unregistered e = rw (lt-leb session_numbers s n, registered, e)

    module _ (r : ℕ) (e : f ≡ Some r) where
      reach-is : reach_of p u ≡ r
      reach-is = sym (reach-set p u) ∙ rw (← h, e)

      pub open_open : (x.live ≡ 0 → ⊥) → Some 16 ≡ first_broken (checks p (opens u s set) (entry_of x))
      unfolding checks first_broken
      open_open l = rw (lt-leb session_numbers s n, registered, e, ne_eqb x.live 0 l)

      -- the session is free: the checks of the set decide
      pub open_set : x.live ≡ 0 → (t o : Bool) → t ≡ within set r → o ≡ too_many p set
          → (y : Option ℕ) → y ≡ first_broken (set_checks (not t) o) → y ≡ first_broken (checks p (opens u s set) (entry_of x))
      unfolding checks entry_after first_broken
      open_set l t o w q y g =
          g ∙ rw (lt-leb session_numbers s n, registered, e, eq-eqb x.live 0 l, reach-is, ← w, ← q)

-- ---- a set

module _ (t o : Bool) where
  pub set-outside : not t ≡ true → Some 19 ≡ first_broken (set_checks (not t) o)
  unfolding first_broken
  set-outside e = rw e

  pub set-over : not t ≡ false → o ≡ true → Some 23 ≡ first_broken (set_checks (not t) o)
  unfolding first_broken
  set-over e q = rw (e, q)

  pub set-kept : not t ≡ false → o ≡ false → None ≡ first_broken (set_checks (not t) o)
  unfolding first_broken
  set-kept e q = rw (e, q)

-- ---- add and drop: the checks of close, then those of a set

module _ (p : Policy) (u s set : ℕ) (o : Bool) (x : Session) (f : Option ℕ) (h : f ≡ reach_if p u) (g : Bool) (hg : g ≡ is_some f) (y : Option ℕ)
    (hy : (p : Policy) → g ≡ there (set_of_number p.users u) → y ≡ first_broken (checks p (closes u s) (entry_of x))) where
  change_is : first_broken (change_checks p u s set o (entry_of x)) ≡ given y (first_broken (set_checks (out_of_reach p u set) o)) Some
  change_is =
      first-broken-append (checks p (closes u s) (entry_of x)) (set_checks (out_of_reach p u set) o)
      ∙ ap (λ (c : Option ℕ). given c (first_broken (set_checks (out_of_reach p u set) o)) Some) (sym (hy p (hg ∙ is_there f ∙ ap there h ∙ reach-there p u)))

  pub change_refused : (w : ℕ) → y ≡ Some w → Some w ≡ first_broken (change_checks p u s set o (entry_of x))
  change_refused w e = sym (change_is ∙ rw e)

  pub change_set : y ≡ None → (t : Bool) → t ≡ within set (unwrap_or f 0)
      → (z : Option ℕ) → z ≡ first_broken (set_checks (not t) o) → z ≡ first_broken (change_checks p u s set o (entry_of x))
  change_set e t w z q = q ∙ sym (change_is ∙ rw (e, ← reach-set p u, ← h, ← or_none f, ← w))

-- where the session is closed, 17 comes before 23; where it is open, what it would hold is what it holds and the set
pub add_is : (p : Policy) (u s set : ℕ) (x : Session) (o : Bool) → o ≡ too_many p (union x.held set)
    → first_broken (change_checks p u s set o (entry_of x)) ≡ first_broken (checks p (adds u s set) (entry_of x))
unfolding checks entry_after first_broken
add_is p u s set x o q = go (eqb x.live 0)
  where
    go : (t : Bool) → let e : Option Entry = cond t None (Some (record { user = x.user; held = x.held })) in
        first_broken (change_checks p u s set o e) ≡ first_broken (checks p (adds u s set) e)
    go true = refl
    go false = rw q

-- ---- request

module _ (p : Policy) (s a n : ℕ) (x : Session) (k : ℕ) (hk : k ≡ actions p.form) where
  pub request_unknown : k ≤ a → Err 12 ≡ asked p s a n (entry_of x)
  unfolding asked checks first_broken
  request_unknown h = rw (le-leb (actions p.form) a (rw hk at h))

  module _ (h : a < k) where
    known : no_action p a ≡ false
    known = lt-leb (actions p.form) a (rw hk at h)

    pub request_nowhere : session_numbers ≤ s → Err 13 ≡ asked p s a n (entry_of x)
    unfolding asked checks first_broken
    request_nowhere m = rw (known, le-leb session_numbers s m)

    module _ (m : s < session_numbers) (f : Option ℕ) (hf : f ≡ set_of_number p.objects n) where
      pub request_unregistered : f ≡ None → Err 15 ≡ asked p s a n (entry_of x)
      unfolding asked checks first_broken
      request_unregistered e = rw (known, lt-leb session_numbers s m, ← hf, e)

      module _ (o : ℕ) (e : f ≡ Some o) where
        pub request_closed : x.live ≡ 0 → Err 17 ≡ asked p s a n (entry_of x)
        unfolding asked checks first_broken
        request_closed l = rw (known, lt-leb session_numbers s m, ← hf, e, eq-eqb x.live 0 l)

        pub request_open : (x.live ≡ 0 → ⊥) → Ok (at x.held o) ≡ asked p s a n (entry_of x)
        unfolding asked checks first_broken object_set
        request_open l = rw (known, lt-leb session_numbers s m, ← hf, e, ne_eqb x.live 0 l)
