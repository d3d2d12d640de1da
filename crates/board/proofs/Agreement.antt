-- Demand 3's list of calls: where the labels decide as the formulas do, the board answers as the plain machine and
-- holds its sessions. The two share each call's checks and what becomes of its session's entry, so that both go by one
-- entry, and one induction serves all.
use Rattle.std.specs.Prelude.{Option, None, Some}
use Prim.Native.Nat.{ℕ, ◌<◌}
use mathlib.Core.Path.{◌≡◌, refl, ap, subst}
use mathlib.Core.Bool.{true, false}
use mathlib.Core.List.{List}
use native.Mathlib.Nat.{lt_of_le_of_lt}
use lib.Pow.{pow_pos}
use borrow.Author.Tests.{leb-false}
use Rattle.basis.specs.Choice.{given, first_broken}
use Rattle.basis.proofs.Choice.{unbroken, first-broken-append}
use Rattle.sets.proofs.Laws.{set_of-lt, within-le}
use Rattle.seniority.specs.Seniority.{reach, held_or_senior}
use Rattle.policy.specs.Limits.{actions, own_widths}
use Rattle.policy.specs.Policy.{Policy, total, sets, set_of_number}
use Rattle.policy.specs.Value.{policy_of}
use Rattle.policy.specs.Valid.{valid}
use Rattle.policy.specs.Answers.{decided}
use Rattle.policy.specs.declared.value.PolicyValue.{PolicyValue}
use Rattle.formula.specs.Truth.{Sets, grants}
use Rattle.board.specs.Machine.{Entry, empty, Call, opens, adds, drops, closes, requests, session_of, reach_of, object_set, checks, entry_after, held_in, sets_asked, reply, step, run}
use Rattle.board.specs.Board.{entry_at, fresh, Labels, reads_past_end, grants_by_labels, look_up, other_widths, board_reply, board_step}
use Rattle.board.proofs.Run.{RanAlike}
use Rattle.board.proofs.OneEntry.{ended, machine_entry, ByEntry, Same, run-same}
use Rattle.board.proofs.Kept.{fitting, fitting-parts, Sound, sound-fresh, entries-fresh, sound-entry, board_entry, board-by_entry}

-- the labels lead all sets to what the formulas say
pub record Serves (p : Policy) (l : Labels) : Type 0 where
  pub widths : own_widths p.form l.buffers.widths ≡ true
  pub inside : (s : Sets) → s.user < sets p.user → s.object < sets p.object → reads_past_end l s ≡ false
  pub decides : (a : ℕ) (s : Sets) → a < actions p.form → s.user < sets p.user → s.object < sets p.object
      → grants_by_labels l a s ≡ grants p a s

-- each registered object's set is one of its side's
abbrev pub ObjectsFit : Policy → Type 0
ObjectsFit p = (n s : ℕ) → set_of_number p.objects n ≡ Some s → s < sets p.object

-- ---- sets below their side's bound

reach_of-lt : (p : Policy) (u : ℕ) → reach_of p u < sets p.user
unfolding reach_of reach
reach_of-lt p u = go (set_of_number p.users u)
  where
    go : (x : Option ℕ) → given x 0 (reach p.user.lines (total p.user)) < sets p.user
    go None = pow_pos (total p.user)
    go (Some s) = set_of-lt (held_or_senior p.user.lines s) (total p.user)

object_set-lt : (p : Policy) → ObjectsFit p → (n : ℕ) → object_set p n < sets p.object
unfolding object_set
object_set-lt p h n = go (set_of_number p.objects n) refl
  where
    go : (x : Option ℕ) → set_of_number p.objects n ≡ x → given x 0 (λ s. s) < sets p.object
    go None e = pow_pos (total p.object)
    go (Some s) e = h n s e

held-lt : (p : Policy) (e : Option Entry) → fitting p e ≡ true → held_in e < sets p.user
held-lt p None h = pow_pos (total p.user)
held-lt p (Some x) h =
    lt_of_le_of_lt (within-le x.held (reach_of p x.user) (fitting-parts p x h).reached) (reach_of-lt p x.user)

-- ---- one call

module _ (p : Policy) (l : Labels) (objects : ObjectsFit p) (serves : Serves p l) where
  -- each is made for the form's own widths
  own : (c : Call) → other_widths p l c ≡ false
  unfolding other_widths
  own (opens u s set) = refl
  own (adds u s set) = refl
  own (drops u s set) = refl
  own (closes u s) = refl
  own (requests s a n) = rw serves.widths

  -- a call that the machine does not refuse finds its places, and is answered alike
  found : (c : Call) (e : Option Entry) → fitting p e ≡ true → first_broken (look_up p l c e) ≡ None
  unfolding look_up first_broken
  found (opens u s set) e f = refl
  found (adds u s set) e f = refl
  found (drops u s set) e f = refl
  found (closes u s) e f = refl
  found (requests s a n) e f = rw (serves.inside (sets_asked p n e) (held-lt p e f) (object_set-lt p objects n))

  answered : (c : Call) (e : Option Entry) → fitting p e ≡ true → first_broken (checks p c e) ≡ None → board_reply p l c e ≡ reply p c e
  unfolding board_reply reply checks
  answered (opens u s set) e f q = refl
  answered (adds u s set) e f q = refl
  answered (drops u s set) e f q = refl
  answered (closes u s) e f q = refl
  answered (requests s a n) e f q =
      let t = unbroken (checks p (requests s a n) e) q in
      ap decided
      (serves.decides a (sets_asked p n e) (leb-false (actions p.form) a t.0) (held-lt p e f) (object_set-lt p objects n))

  module _ (v : PolicyValue) (e : policy_of v ≡ p) (ok : valid v ≡ true) where
    -- on an entry that fits, the board does as the machine
    agrees : (c : Call) (x : Option Entry) → fitting p x ≡ true → board_entry v l c x ≡ machine_entry p c x
    unfolding board_entry machine_entry first_broken
    agrees c x f =
        rw (e, own c, ok, first-broken-append (checks p c x) (look_up p l c x), found c x f) (go (first_broken (checks p c x)) refl)
      where
        go : (r : Option ℕ) → first_broken (checks p c x) ≡ r
            → ended (given r None Some) (board_reply p l c x) (entry_after c x) x ≡ ended r (reply p c x) (entry_after c x) x
        go None q = rw (answered c x f q)
        go (Some n) q = refl

    -- ---- every list of calls

    pub agreement : (calls : List Call) → RanAlike (Same (Sound p) entry_at) (run (board_step v l) calls fresh) (run (step p) calls empty)
    agreement calls =
        run-same p (Sound p) entry_at (board_entry v l) (board_step v l)
        (subst (λ (q : Policy). ByEntry (Sound q) entry_at (board_entry v l) (board_step v l)) e (board-by_entry v l))
        (λ c b h. agrees c (entry_at b (session_of c)) (sound-entry p b h (session_of c)))
        calls fresh empty (record { sound = sound-fresh p; entries = entries-fresh })

    -- "Each answer equals the machine's"
    pub replies-agree : (calls : List Call) → (run (board_step v l) calls fresh).replies ≡ (run (step p) calls empty).replies
    replies-agree calls = (agreement calls).replies

    -- "after the list the board holds exactly the map's sessions, each with its user and held set"
    pub sessions-agree : (calls : List Call) (k : ℕ) → entry_at (run (board_step v l) calls fresh).state k ≡ (run (step p) calls empty).state k
    sessions-agree calls = (agreement calls).state.entries
