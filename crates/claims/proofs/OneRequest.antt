-- Demand 3's last sentence, about one request, whatever it is handed.
use Rattle.std.specs.Prelude.{Option, None, Some}
use Prim.Native.Nat.{ℕ}
use mathlib.Core.Path.{◌≡◌, refl}
use mathlib.Core.Bool.{Bool, true, false, cond, not, ◌||◌}
use native.Mathlib.Omega.{arith}
use Rattle.basis.specs.Choice.{given, first_broken}
use Rattle.policy.specs.Value.{policy_of}
use Rattle.policy.specs.Answers.{Reply, refused}
use Rattle.policy.specs.declared.value.PolicyValue.{PolicyValue}
use Rattle.board.specs.Machine.{requests, Out}
use Rattle.board.specs.Board.{Labels, fits, other_widths, board_step, board_checks, board_after}
use Rattle.board.specs.declared.Board.{Board}
use Rattle.board.specs.Inner.{lower}
use Rattle.board.proofs.OneRequest.{past-iff, refused-iff, granted-iff}
use Rattle.claims.specs.Demand3.{sets_at, answered, RequestClaim}

-- a step that leaves its state either way
state-kept : (o : Option ℕ) (r : Reply) (b : Board)
    → (given {B = Out Board} o (record { reply = r; state = b }) (λ n. record { reply = refused n; state = b })).state ≡ b
state-kept None r b = refl
state-kept (Some n) r b = refl

board-kept : (v : PolicyValue) (l : Labels) (b : Board) (s a n : ℕ) → (answered v l b s a n).state ≡ b
unfolding board_step board_after
board-kept v l b s a n = state-kept (first_broken (board_checks v l (requests s a n) b)) _ b

-- check 11 is met by neither of its conditions
neither : (other unfit : Bool) (r : Option ℕ) → cond (other || unfit) (Some 11) r ≡ None → (other ≡ false) × (cond unfit (Some 11) r ≡ None)
neither true unfit r e = let z : ◌≡◌ {A = ℕ} 0 1 = cc in absurd (omega arith)
neither false unfit r e = (refl, e)

pub one-request : RequestClaim
unfolding lower first_broken
one-request v l b s a n =
    record {
      by_bit = granted-iff v l b s a n;
      past_end = λ e.
          let w = neither (other_widths (policy_of v) l (requests s a n)) (not (fits v b)) _ e in
          let r = refused-iff v l b s a n w.0 w.1 in
          let q = past-iff l (sets_at v b s n) in
          (λ x. q.1 (r.0 x), λ x. r.1 (q.0 x));
      kept = board-kept v l b s a n;
    }
