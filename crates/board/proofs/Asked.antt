-- A request: where check 11 passes, what it comes to and the look-up are its answer, and it leaves the board.
use Rattle.std.specs.Prelude.{Option, None, Some, Result, Ok, Err}
use Prim.Native.Nat.{ℕ}
use mathlib.Core.Path.{◌≡◌, refl, sym, ap, ap₂, ◌∙◌}
use mathlib.Core.Bool.{Bool, false, not}
use borrow.Author.Tests.{not-false}
use lib.ListN.{get_or}
use Rattle.basis.specs.Choice.{given, first_broken}
use Rattle.policy.specs.Limits.{actions, own_widths}
use Rattle.policy.specs.Policy.{Policy}
use Rattle.policy.specs.Value.{policy_of, entries_of}
use Rattle.policy.specs.Answers.{Reply, refused}
use Rattle.policy.specs.declared.value.PolicyValue.{PolicyValue}
use Rattle.formula.specs.Truth.{Sets}
use Rattle.board.specs.declared.Board.{Board}
use Rattle.board.specs.Machine.{requests, checks, Out}
use Rattle.board.specs.Board.{closed, entry_of, entry_at, fits, Labels, look_up, other_widths, board_after, board_step}
use Rattle.board.specs.Inner.{asked, answered, lower, looked_up}
use Rattle.board.proofs.Refusals.{allowed, step_is, lower-good}
use Rattle.board.proofs.OneRequest.{answer, sets_of, answer-is}

module _ (v : PolicyValue) (l : Labels) (b : Board) (s a n : ℕ) where
  -- the board stays
  kept : (r : Option ℕ) (o : Out Board) → o.state ≡ b → (given {B = Out Board} r o (λ k. record { reply = refused k; state = b })).state ≡ b
  kept None o e = e
  kept (Some k) o e = refl

  stays : other_widths (policy_of v) l (requests s a n) ≡ false → (board_step v l (requests s a n) b).state ≡ b
  unfolding allowed board_after
  stays own =
      ap (λ (o : Out Board). o.state) (step_is v l (requests s a n) b own)
      ∙ kept (lower v (requests s a n) b) (allowed v l (requests s a n) b) (kept (first_broken (look_up (policy_of v) l (requests s a n) (entry_at b s))) _ refl)

  -- a refusal, or what the sets' labels say
  answered-by : (r : Option ℕ) (x : Sets) → answered l a (given {B = Result Sets ℕ} r (Ok x) Err) ≡ given r (looked_up l a x) refused
  answered-by None x = refl
  answered-by (Some k) x = refl

  module _ (w : Bool) (hw : w ≡ own_widths v.form l.buffers.widths) (g : not w ≡ false) (t : Bool) (ht : t ≡ fits v b) (h : not t ≡ false) where
    own : other_widths (policy_of v) l (requests s a n) ≡ false
    unfolding policy_of other_widths
    own = rw (← hw) g

    answered-is : answered l a (asked (policy_of v) s a n (entry_at b s)) ≡ answer v l b s a n
    unfolding asked
    answered-is =
        answered-by (first_broken (checks (policy_of v) (requests s a n) (entry_at b s))) (sets_of v b s n)
        ∙ sym (answer-is v l b s a n own ∙ rw (lower-good v (requests s a n) b (sym ht ∙ not-false t h)))

    pub asked-step : (k : ℕ) → k ≡ actions v.form → (y : Result Sets ℕ)
        → ((p : Policy) → p.objects ≡ entries_of v.objects → k ≡ actions p.form → y ≡ asked p s a n (entry_of (get_or b.sessions s closed)))
        → (z : Reply) → z ≡ answered l a y → record { reply = z; state = b } ≡ board_step v l (requests s a n) b
    unfolding policy_of entry_at
    asked-step k hk y hy z hz =
        let q : y ≡ asked (policy_of v) s a n (entry_at b s) = hy (policy_of v) refl hk in
        let e : z ≡ answer v l b s a n = hz ∙ ap (answered l a) q ∙ answered-is in
        ap₂ {C = Out Board} (λ (r : Reply) (o : Board). record { reply = r; state = o }) e (sym (stays own))
