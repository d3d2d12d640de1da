-- One call on a board: its refusals are 11, the machine's and 20, in this order.
use Rattle.std.specs.Prelude.{Option, None, Some}
use mathlib.Core.Path.{◌≡◌, refl, ap, ◌∙◌}
use mathlib.Core.Bool.{true, false, not}
use mathlib.Core.List.{◌∷◌}
use Prim.Native.Nat.{ℕ}
use Rattle.basis.specs.Choice.{given, check, first_broken}
use Rattle.basis.proofs.Choice.{first-broken-append}
use Rattle.policy.specs.Value.{policy_of}
use Rattle.policy.specs.Answers.{refused}
use Rattle.policy.specs.declared.value.PolicyValue.{PolicyValue}
use Rattle.board.specs.declared.Board.{Board}
use Rattle.board.specs.Machine.{Call, session_of, checks, Out}
use Rattle.board.specs.Inner.{lower, invalid}
use Rattle.board.specs.Board.{entry_at, fits, Labels, look_up, board_reply, other_widths, board_checks, board_after, board_step}

module _ (v : PolicyValue) (c : Call) (b : Board) where
  pub lower-bad : fits v b ≡ false → lower v c b ≡ Some 11
  unfolding lower first_broken
  lower-bad f = rw f

  pub lower-good : fits v b ≡ true → lower v c b ≡ first_broken (checks (policy_of v) c (entry_at b (session_of c)))
  unfolding lower first_broken
  lower-good f = rw f

-- what a call gives where neither 11 nor one of the machine's refusals applies
unfoldable pub allowed : PolicyValue → Labels → Call → Board → Out Board
allowed v l c b =
    given (first_broken (look_up (policy_of v) l c (entry_at b (session_of c))))
    (record { reply = board_reply (policy_of v) l c (entry_at b (session_of c)); state = board_after c b })
    (λ n. record { reply = refused n; state = b })

then : {A : Type 0} (r s : Option ℕ) (a : A) (f : ℕ → A) → given (given r s Some) a f ≡ given r (given s a f) f
then None s a f = refl
then (Some n) s a f = refl

-- a call made for other widths than the form's
pub step_other : (v : PolicyValue) (l : Labels) (c : Call) (b : Board) → other_widths (policy_of v) l c ≡ true → board_step v l c b ≡ invalid b
unfolding board_step board_checks first_broken
step_other v l c b e = rw e

-- and one made for its own
pub step_is : (v : PolicyValue) (l : Labels) (c : Call) (b : Board) → other_widths (policy_of v) l c ≡ false
    → board_step v l c b ≡ given (lower v c b) (allowed v l c b) (λ n. record { reply = refused n; state = b })
unfolding board_step board_checks lower allowed
step_is v l c b own =
    rw own
    (ap
    (λ (r : Option ℕ).
    given r (record { reply = board_reply (policy_of v) l c (entry_at b (session_of c)); state = board_after c b }) (λ n. record { reply = refused n; state = b }))
    (first-broken-append (check 11 (not (fits v b)) ∷ checks (policy_of v) c (entry_at b (session_of c))) (look_up (policy_of v) l c (entry_at b (session_of c))))
    ∙ then (lower v c b) (first_broken (look_up (policy_of v) l c (entry_at b (session_of c)))) _ _)
