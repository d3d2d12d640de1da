-- The calls that change a session: check 11, then a ruling, which with the session's next entry makes the call's step.
use Rattle.std.specs.Prelude.{Option, None, Some}
use Prim.Native.Nat.{ℕ, ◌≤◌, ◌<◌}
use mathlib.Core.Path.{◌≡◌, refl, sym, ap, ◌∙◌}
use mathlib.Core.Bool.{Bool, true, false, not, cond}
use mathlib.Core.List.{[], ◌∷◌}
use borrow.Author.Tests.{not-true, not-false}
use lib.Dec.{eqb}
use lib.ListN.{get_or, set}
use Rattle.basis.specs.Choice.{given, there, first_broken}
use Rattle.basis.proofs.Choice.{unbroken, unbroken-rest}
use Rattle.sets.specs.Set.{union, minus}
use Rattle.policy.specs.Limits.{session_numbers, own_widths}
use Rattle.policy.specs.Policy.{Policy, set_of_number}
use Rattle.policy.specs.Value.{entry_places, conflict_places, entries_of, conflicts_of, side_of, policy_of}
use Rattle.policy.specs.Answers.{done, refused}
use Rattle.policy.specs.declared.value.PolicyValue.{PolicyValue}
use Rattle.board.specs.declared.Session.{Session}
use Rattle.board.specs.declared.Board.{Board}
use Rattle.board.specs.Machine.{Entry, Call, opens, adds, drops, closes, requests, session_of, too_many, checks, entry_after, Out}
use Rattle.board.specs.Board.{closed, entry_of, entry_at, session_for, store, fits, Labels, look_up, other_widths, board_reply, board_after, board_step}
use Rattle.board.specs.Inner.{reach_if, Reachable, over, lower, invalid, settled}
use Rattle.board.proofs.Refusals.{allowed, step_other, step_is, lower-bad, lower-good}
use Rattle.board.proofs.Fitting.{fits-valid}
use Rattle.board.proofs.Kept.{near}
use Rattle.board.proofs.Judging.{judges-one, conflicts-within}
use Rattle.board.proofs.Valid.{reachable, objects-within}

-- what passes the checks passes the machine's
lower-none : (v : PolicyValue) (c : Call) (b : Board) → lower v c b ≡ None → first_broken (checks (policy_of v) c (entry_at b (session_of c))) ≡ None
unfolding lower
lower-none v c b e = unbroken-rest _ _ e

module _ (v : PolicyValue) (c : Call) (b : Board) (r : Option ℕ) (h : r ≡ lower v c b) where
  pub settled-near : r ≡ None → session_of c < session_numbers
  settled-near e = near (policy_of v) c (entry_at b (session_of c)) (lower-none v c b (sym h ∙ e))

  -- a call that is done as the entry says
  abbrev Done : Labels → Type 0
  Done l = allowed v l c b ≡ record { reply = done; state = store b (session_of c) (entry_after c (entry_at b (session_of c))) }

  settled-step : (l : Labels) → other_widths (policy_of v) l c ≡ false → Done l → (x : Session) → (r ≡ None → x ≡ session_for (entry_after c (entry_at b (session_of c))))
      → settled b (session_of c) r x ≡ board_step v l c b
  unfolding settled store
  settled-step l own d x e = rw (step_is v l c b own, ← h) (go r refl)
    where
      go : (q : Option ℕ) → r ≡ q
          → given {B = Out Board} q (record { reply = done; state = record { sessions = set b.sessions (session_of c) x } })
          (λ n. record { reply = refused n; state = b })
          ≡ given q (allowed v l c b) (λ n. record { reply = refused n; state = b })
      go None k = rw (d, e k)
      go (Some n) k = refl

-- ---- the session's next entry

pub live_of : (x : Session) → there (entry_of x) ≡ true → eqb x.live 0 ≡ false
live_of x e = go (eqb x.live 0) e
  where
    go : (t : Bool) → there (cond {A = Option Entry} t None (Some (record { user = x.user; held = x.held }))) ≡ true → t ≡ false
    go true f = cc
    go false f = refl

-- add or drop: the session is open, or the call is refused
module _ (v : PolicyValue) (b : Board) (u s set : ℕ) (x : Session) (hx : x ≡ get_or b.sessions s closed) where
  at_entry : entry_of x ≡ entry_at b s
  unfolding entry_at
  at_entry = ap entry_of hx

  live_add : lower v (adds u s set) b ≡ None → eqb x.live 0 ≡ false
  unfolding checks
  live_add e =
      live_of x
      (rw at_entry (not-false (there (entry_at b s)) (unbroken (checks (policy_of v) (adds u s set) (entry_at b s)) (lower-none v (adds u s set) b e)).1.1.0))

  live_drop : lower v (drops u s set) b ≡ None → eqb x.live 0 ≡ false
  unfolding checks
  live_drop e =
      live_of x
      (rw at_entry (not-false (there (entry_at b s)) (unbroken (checks (policy_of v) (drops u s set) (entry_at b s)) (lower-none v (drops u s set) b e)).1.1.0))

module _ (l : Labels) (v : PolicyValue) (b : Board) (u s : ℕ) (r : Option ℕ) where
  pub opened : (set : ℕ) → r ≡ lower v (opens u s set) b
      → settled b s r (record { live = 1; user = u; held = set }) ≡ board_step v l (opens u s set) b
  unfolding allowed look_up other_widths board_reply board_after entry_after first_broken
  opened set h = settled-step v (opens u s set) b r h l refl refl _ (λ e. refl)

  pub closed-again : r ≡ lower v (closes u s) b → (x : Session) → x ≡ closed → settled b s r x ≡ board_step v l (closes u s) b
  unfolding allowed look_up other_widths board_reply board_after entry_after first_broken
  closed-again h x e = settled-step v (closes u s) b r h l refl refl x (λ q. e)

  module _ (set : ℕ) (x : Session) (hx : x ≡ get_or b.sessions s closed) (held : ℕ) where
    pub added : r ≡ lower v (adds u s set) b → held ≡ union x.held set
        → settled b s r (record { live = 1; user = x.user; held = held }) ≡ board_step v l (adds u s set) b
    unfolding allowed look_up other_widths board_reply board_after entry_after first_broken
    added h e =
        settled-step v (adds u s set) b r h l refl refl _
        (λ q. rw (← at_entry v b u s set x hx, live_add v b u s set x hx (sym h ∙ q), e))

    pub dropped : r ≡ lower v (drops u s set) b → held ≡ minus x.held set
        → settled b s r (record { live = 1; user = x.user; held = held }) ≡ board_step v l (drops u s set) b
    unfolding allowed look_up other_widths board_reply board_after entry_after first_broken
    dropped h e =
        settled-step v (drops u s set) b r h l refl refl _
        (λ q. rw (← at_entry v b u s set x hx, live_drop v b u s set x hx (sym h ∙ q), e))

-- ---- check 11 first

-- the widths that a request is made for
pub stopped-widths : (v : PolicyValue) (l : Labels) (b : Board) (s a n : ℕ) (t : Bool) → t ≡ own_widths v.form l.buffers.widths → not t ≡ true
    → (o : Out Board) → o ≡ invalid b → o ≡ board_step v l (requests s a n) b
unfolding policy_of other_widths
stopped-widths v l b s a n t ht q o e = e ∙ sym (step_other v l (requests s a n) b (rw (← ht) q))

module _ (v : PolicyValue) (b : Board) (t : Bool) (ht : t ≡ fits v b) where
  pub stopped : (l : Labels) (c : Call) → not t ≡ true → (o : Out Board) → o ≡ invalid b → o ≡ board_step v l c b
  stopped l c n o e = e ∙ sym (go (other_widths (policy_of v) l c) refl)
    where
      go : (q : Bool) → other_widths (policy_of v) l c ≡ q → board_step v l c b ≡ invalid b
      go true q = step_other v l c b q
      go false q = step_is v l c b q ∙ rw (lower-bad v c b (sym ht ∙ not-true t n))

  module _ (n : not t ≡ false) where
    pub ready : Reachable v.user v.users
    ready = reachable v (fits-valid v b (sym ht ∙ not-false t n))

    pub conflicts-ready : v.conflicts.count ≤ conflict_places
    conflicts-ready = conflicts-within v (fits-valid v b (sym ht ∙ not-false t n))

    judged : (s : ℕ) → over (conflicts_of v.conflicts) (s ∷ []) ≡ too_many (policy_of v) s
    judged = judges-one v (fits-valid v b (sym ht ∙ not-false t n))

    pub objects-ready : v.objects.count ≤ entry_places
    objects-ready = objects-within v (fits-valid v b (sym ht ∙ not-false t n))

    -- then the machine's checks, on the session's entry
    ruled : (c : Call) (x : Session) → x ≡ get_or b.sessions (session_of c) closed
        → (r : Option ℕ) → r ≡ first_broken (checks (policy_of v) c (entry_of x)) → r ≡ lower v c b
    unfolding entry_at
    ruled c x h r e = e ∙ rw h (sym (lower-good v c b (sym ht ∙ not-false t n)))

    module _ (u s : ℕ) (x : Session) (hx : x ≡ get_or b.sessions s closed) (y : Option ℕ) where
      pub close_ruled : (g : Bool) → g ≡ there (set_of_number (entries_of v.users) u)
          → ((p : Policy) → g ≡ there (set_of_number p.users u) → y ≡ first_broken (checks p (closes u s) (entry_of x)))
          → y ≡ lower v (closes u s) b
      unfolding policy_of
      close_ruled g hg hy = ruled (closes u s) x hx y (hy (policy_of v) hg)

      module _ (f : Option ℕ) (hf : (p : Policy) → p.users ≡ entries_of v.users → p.user ≡ side_of v.user → f ≡ reach_if p u) where
        pub open_ruled : (set : ℕ) (o : Bool) → o ≡ over (conflicts_of v.conflicts) (set ∷ [])
            → ((p : Policy) (w : ℕ) → f ≡ reach_if p w → o ≡ too_many p set → y ≡ first_broken (checks p (opens w s set) (entry_of x)))
            → y ≡ lower v (opens u s set) b
        unfolding policy_of
        open_ruled set o ho hy = ruled (opens u s set) x hx y (hy (policy_of v) u (hf (policy_of v) refl refl) (ho ∙ judged set))

        pub add_ruled : (set held : ℕ) → held ≡ union x.held set → (o : Bool) → o ≡ over (conflicts_of v.conflicts) (held ∷ [])
            → ((p : Policy) → f ≡ reach_if p u → o ≡ too_many p (union x.held set) → y ≡ first_broken (checks p (adds u s set) (entry_of x)))
            → y ≡ lower v (adds u s set) b
        unfolding policy_of
        add_ruled set held hh o ho hy =
            ruled (adds u s set) x hx y (hy (policy_of v) (hf (policy_of v) refl refl) (rw (← hh) (ho ∙ judged held)))

        pub drop-ruled : (set : ℕ) → ((p : Policy) → f ≡ reach_if p u → y ≡ first_broken (checks p (drops u s set) (entry_of x)))
            → y ≡ lower v (drops u s set) b
        unfolding policy_of
        drop-ruled set hy = ruled (drops u s set) x hx y (hy (policy_of v) (hf (policy_of v) refl refl))
