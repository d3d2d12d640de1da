-- What check 11 passes stays so: a call that is not refused leaves its session's entry fitting, and with it the board.
-- On such a board each call goes by one entry, whatever the policy value and the buffers.
use Rattle.std.specs.Prelude.{Option, None, Some}
use Prim.Native.Nat.{ℕ, ◌<◌}
use mathlib.Core.Path.{◌≡◌, refl, ap, ◌∙◌}
use mathlib.Core.Bool.{Bool, true, false, cond, not, ◌||◌, and-true}
use mathlib.Core.List.{List, ◌∷◌, ◌++◌}
use native.Mathlib.Omega.{arith}
use lib.Dec.{eqb}
use lib.ListN.{length, get_or, set, length-set, length-replicate}
use lib.Seq.{get_or-set_same, get_or-set_other}
use borrow.Author.Tests.{eqb-true, eqb-false, leb-false, not-false, not-true}
use Rattle.basis.specs.Choice.{given, there, Check, check, first_broken}
use Rattle.basis.proofs.Bools.{and_left, and_right}
use Rattle.basis.proofs.Choice.{unbroken, unbroken-rest, unbroken-first}
use Rattle.basis.proofs.Lists.{all_get_d, all_set, all_replicate, get_or-blank}
use Rattle.sets.specs.Set.{union, minus, within}
use Rattle.sets.proofs.Laws.{within-union, within-minus}
use Rattle.policy.specs.Limits.{session_numbers}
use Rattle.policy.specs.Policy.{Policy, set_of_number}
use Rattle.policy.specs.Value.{policy_of}
use Rattle.policy.specs.Valid.{valid}
use Rattle.policy.specs.declared.value.PolicyValue.{PolicyValue}
use Rattle.board.specs.declared.Board.{Board}
use Rattle.board.specs.Machine.{Entry, empty, put, Call, opens, adds, drops, closes, requests, session_of, reach_of, too_many, checks, entry, entry_after}
use Rattle.board.specs.Board.{closed, entry_of, session_for, entry_at, store, fresh, entry_fits, board_fits, fits, Labels, look_up, other_widths, board_reply, board_checks, board_after, board_step}
use Rattle.board.proofs.Judging.{fewer-kept}
use Rattle.board.proofs.OneEntry.{ended, EntryStep, ByEntry, put_same, ended-reply, ended-entries}

-- ---- an entry that check 11 passes

abbrev pub fitting : Policy → Option Entry → Bool
fitting p e = given e true (entry_fits p)

-- its user is registered, and its set in reach and within every conflict
pub record Fitting (p : Policy) (x : Entry) : Type 0 where
  pub registered : there (set_of_number p.users x.user) ≡ true
  pub reached : within x.held (reach_of p x.user) ≡ true
  pub few : too_many p x.held ≡ false

pub fitting-parts : (p : Policy) (x : Entry) → entry_fits p x ≡ true → Fitting p x
fitting-parts p x h =
    let t = and_right (there (set_of_number p.users x.user)) _ h in
    record {
      registered = and_left _ _ h;
      reached = and_left _ _ t;
      few = not-true _ (and_right (within x.held (reach_of p x.user)) _ t);
    }

fitting-whole : (p : Policy) (x : Entry) → Fitting p x → entry_fits p x ≡ true
fitting-whole p x f = rw (f.registered, f.reached, f.few)

-- a call that is not refused names one of the session numbers
pub near : (p : Policy) (c : Call) (e : Option Entry) → first_broken (checks p c e) ≡ None → session_of c < session_numbers
unfolding checks
near p (opens u s set) e h = leb-false session_numbers s (unbroken (checks p (opens u s set) e) h).0
near p (adds u s set) e h = leb-false session_numbers s (unbroken (checks p (adds u s set) e) h).0
near p (drops u s set) e h = leb-false session_numbers s (unbroken (checks p (drops u s set) e) h).0
near p (closes u s) e h = leb-false session_numbers s (unbroken (checks p (closes u s) e) h).0
near p (requests s a n) e h = leb-false session_numbers s (unbroken (checks p (requests s a n) e) h).1.0

-- and leaves its session's entry fitting
pub kept : (p : Policy) (c : Call) (e : Option Entry) → fitting p e ≡ true → first_broken (checks p c e) ≡ None → fitting p (entry_after c e) ≡ true
unfolding checks entry_after
kept p (opens u s set) e f h =
    let t = unbroken (checks p (opens u s set) e) h in
    fitting-whole p (entry u set) (record { registered = not-false _ t.1.0; reached = not-false _ t.1.1.1.0; few = t.1.1.1.1.0 })
kept p (adds u s set) None f h = refl
kept p (adds u s set) (Some x) f h =
    let t = unbroken (checks p (adds u s set) (Some x)) h in
    let g = fitting-parts p x f in
    let q : x.user ≡ u = eqb-true x.user u (not-false _ t.1.1.1.0) in
    let w : within set (reach_of p x.user) ≡ true = rw q (not-false _ t.1.1.1.1.0) in
    fitting-whole p (entry x.user (union x.held set))
    (record { registered = g.registered; reached = within-union x.held set (reach_of p x.user) g.reached w; few = t.1.1.1.1.1.0 })
kept p (drops u s set) None f h = refl
kept p (drops u s set) (Some x) f h =
    let g = fitting-parts p x f in
    fitting-whole p (entry x.user (minus x.held set))
    (record { registered = g.registered; reached = within-minus x.held set (reach_of p x.user) g.reached; few = fewer-kept p x.held set g.few })
kept p (closes u s) e f h = refl
kept p (requests s a n) e f h = f

-- ---- a board that check 11 passes

pub record Sound (p : Policy) (b : Board) : Type 0 where
  pub size : length b.sessions ≡ session_numbers
  pub fitted : board_fits p b ≡ true

pub sound-fresh : (p : Policy) → Sound p fresh
unfolding fresh board_fits
sound-fresh p =
    record { size = length-replicate session_numbers closed; fitted = all_replicate (λ x. fitting p (entry_of x)) closed refl session_numbers }

pub entries-fresh : (k : ℕ) → entry_at fresh k ≡ empty k
unfolding fresh entry_at empty
entries-fresh k = ap entry_of (get_or-blank session_numbers k closed)

back : (e : Option Entry) → entry_of (session_for e) ≡ e
back None = refl
back (Some x) = refl

module _ (p : Policy) (b : Board) (h : Sound p b) where
  pub sound-entry : (s : ℕ) → fitting p (entry_at b s) ≡ true
  unfolding board_fits entry_at
  sound-entry s = all_get_d (λ x. fitting p (entry_of x)) closed refl b.sessions s h.fitted

  -- an entry stored
  stored_at : (s : ℕ) (e : Option Entry) → s < session_numbers → (k : ℕ) → entry_at (store b s e) k ≡ put (entry_at b) s e k
  unfolding entry_at store put
  stored_at s e near k = go (eqb k s) refl
    where
      go : (t : Bool) → eqb k s ≡ t
          → entry_of (get_or (set b.sessions s (session_for e)) k closed) ≡ cond t e (entry_of (get_or b.sessions k closed))
      go true q = rw (eqb-true k s q, get_or-set_same b.sessions s (session_for e) closed (omega (arith, h.size))) (back e)
      go false q = rw (get_or-set_other b.sessions s k (session_for e) closed (eqb-false k s q))

  sound-stored : (s : ℕ) (e : Option Entry) → fitting p e ≡ true → Sound p (store b s e)
  unfolding store board_fits
  sound-stored s e f =
      record {
        size = length-set b.sessions s (session_for e) ∙ h.size;
        fitted = all_set (λ x. fitting p (entry_of x)) (session_for e) (rw (back e) f) b.sessions s h.fitted;
      }

  -- what a call that is not refused leaves
  module _ (c : Call) (q : first_broken (checks p c (entry_at b (session_of c))) ≡ None) where
    sound-done : Sound p (store b (session_of c) (entry_after c (entry_at b (session_of c))))
    sound-done = sound-stored (session_of c) _ (kept p c (entry_at b (session_of c)) (sound-entry (session_of c)) q)

    entries-done : (k : ℕ)
        → entry_at (store b (session_of c) (entry_after c (entry_at b (session_of c)))) k
        ≡ put (entry_at b) (session_of c) (entry_after c (entry_at b (session_of c))) k
    entries-done = stored_at (session_of c) _ (near p c (entry_at b (session_of c)) q)

  sound-after : (c : Call) → first_broken (checks p c (entry_at b (session_of c))) ≡ None → Sound p (board_after c b)
  unfolding board_after
  sound-after (opens u s set) q = sound-done (opens u s set) q
  sound-after (adds u s set) q = sound-done (adds u s set) q
  sound-after (drops u s set) q = sound-done (drops u s set) q
  sound-after (closes u s) q = sound-done (closes u s) q
  sound-after (requests s a n) q = h

  entries-after : (c : Call) → first_broken (checks p c (entry_at b (session_of c))) ≡ None → (k : ℕ)
      → entry_at (board_after c b) k ≡ put (entry_at b) (session_of c) (entry_after c (entry_at b (session_of c))) k
  unfolding board_after entry_after
  entries-after (opens u s set) q k = entries-done (opens u s set) q k
  entries-after (adds u s set) q k = entries-done (adds u s set) q k
  entries-after (drops u s set) q k = entries-done (drops u s set) q k
  entries-after (closes u s) q k = entries-done (closes u s) q k
  entries-after (requests s a n) q k = put_same (entry_at b) s k

-- ---- one call

-- its checks on a board that check 11 passes: of 11 the policy value and the widths are left
abbrev entry_checks : PolicyValue → Labels → Call → Option Entry → List Check
entry_checks v l c e =
    check 11 (other_widths (policy_of v) l c || not (valid v)) ∷ checks (policy_of v) c e ++ look_up (policy_of v) l c e

-- what it answers and makes of its session's entry
unfoldable pub board_entry : PolicyValue → Labels → EntryStep
board_entry v l c e = ended (first_broken (entry_checks v l c e)) (board_reply (policy_of v) l c e) (entry_after c e) e

module _ (v : PolicyValue) (l : Labels) (c : Call) (b : Board) (h : Sound (policy_of v) b) where
  checks-are : board_checks v l c b ≡ entry_checks v l c (entry_at b (session_of c))
  unfolding board_checks fits
  checks-are = rw (h.fitted, and-true (valid v))

  machine-passes : first_broken (board_checks v l c b) ≡ None → first_broken (checks (policy_of v) c (entry_at b (session_of c))) ≡ None
  unfolding board_checks
  machine-passes q = unbroken-first _ _ (unbroken-rest _ _ q)

  step-reply : (board_step v l c b).reply ≡ (board_entry v l c (entry_at b (session_of c))).reply
  unfolding board_step board_entry
  step-reply = rw (← checks-are) (ended-reply entry_at _ _ b (session_of c) _ (first_broken (board_checks v l c b)))

  step-entries : (k : ℕ) → entry_at (board_step v l c b).state k ≡ put (entry_at b) (session_of c) (board_entry v l c (entry_at b (session_of c))).state k
  unfolding board_step board_entry
  step-entries =
      rw (← checks-are)
      (ended-entries entry_at _ (board_after c b) b (session_of c) _ (first_broken (board_checks v l c b)) (λ q. entries-after (policy_of v) b h c (machine-passes q)))

  step-sound : Sound (policy_of v) (board_step v l c b).state
  unfolding board_step
  step-sound = go (first_broken (board_checks v l c b)) refl
    where
      go : (r : Option ℕ) → first_broken (board_checks v l c b) ≡ r
          → Sound (policy_of v) (ended r (board_reply (policy_of v) l c (entry_at b (session_of c))) (board_after c b) b).state
      go None q = sound-after (policy_of v) b h c (machine-passes q)
      go (Some n) q = h

-- the board's calls go by one entry each
pub board-by_entry : (v : PolicyValue) (l : Labels) → ByEntry (Sound (policy_of v)) entry_at (board_entry v l) (board_step v l)
board-by_entry v l = record { reply = step-reply v l; entries = step-entries v l; sound = step-sound v l }
