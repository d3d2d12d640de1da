-- Demand 1, call by call: each goes by the first broken check of its list.
use Rattle.std.specs.Prelude.{Option, None, Some, Result, Ok, Err}
use Prim.Native.Nat.{ℕ}
use mathlib.Core.Path.{◌≡◌, refl, ap}
use mathlib.Core.List.{[], ◌∷◌, map}
use native.Mathlib.Omega.{arith}
use Rattle.policy.specs.Write.{write, write_buffer, write_checks}
use Rattle.policy.specs.Answers.{number_of, value_in}
use Rattle.policy.specs.declared.value.PolicyValue.{PolicyValue}
use Rattle.policy.specs.declared.refusal.Refusal.{Refusal}
use Rattle.policy.proofs.Valid.{blank-refused}
use Rattle.formula.specs.Decide as byPolicy
use Rattle.tuples.specs.Tuples as byTuples
use Rattle.labels.specs.Compile.{compile, compile_buffers, compile_checks}
use Rattle.labels.specs.Apart.{Tells, apart_checks}
use Rattle.labels.specs.declared.Witness.{Witness}
use Rattle.board.specs.Machine.{Call, opens, adds, drops, closes, requests, Out, checks}
use Rattle.board.specs.Board.{Labels, board_step, board_checks, look_up}
use Rattle.board.specs.declared.Board.{Board}
use Rattle.runner.specs.Run.{run_checks, answer_count, answer_buffer, board_after_run}
use Rattle.claims.specs.Answers.{Answers}
use Rattle.claims.specs.Demand1.{ApartResult, ApartRefuses, refusals_of, Calls, Claim}
use Rattle.claims.proofs.Answers.{answers, none-given, some-given}
use Rattle.claims.proofs.Reading.{because}

-- ---- Apart

no_number : {A : Type 0} (o : Option ℕ) (n : ℕ) → o ≡ None → o ≡ Some n → A
no_number o n e f = let z : ◌≡◌ {A = ℕ} 0 1 = cc in absurd (omega arith)

same_number : (o : Option ℕ) (m n : ℕ) → o ≡ Some m → o ≡ Some n → m ≡ n
same_number o m n e f = cc

apart : (v : PolicyValue) (u w : ℕ) (r : Result (Option Witness) Refusal) → Tells v u w r
    → Answers (11 ∷ 19 ∷ []) (apart_checks v u w) (ApartResult v u w r) (ApartRefuses r)
apart v u w (Ok None) t = answers _ (apart_checks v u w) refl (λ e. t.1) (λ n e. no_number _ n t.0 e)
apart v u w (Ok (Some x)) t = answers _ (apart_checks v u w) refl (λ e. t.1) (λ n e. no_number _ n t.0 e)
apart v u w (Err r) t =
    answers _ (apart_checks v u w) refl (λ e. no_number _ (number_of r) e t) (λ n e. same_number _ (number_of r) n t e)

-- ---- session calls

session-numbers : (v : PolicyValue) (l : Labels) (c : Call) (b : Board) → map (λ x. x.number) (board_checks v l c b) ≡ refusals_of c
unfolding board_checks checks look_up
session-numbers v l (opens u s set) b = refl
session-numbers v l (adds u s set) b = refl
session-numbers v l (drops u s set) b = refl
session-numbers v l (closes u s) b = refl
session-numbers v l (requests s a n) b = refl

-- ---- all calls

calls : (v : PolicyValue) → Calls v
unfolding write write_buffer byPolicy.decide byTuples.list byTuples.list_buffer byTuples.decide_by_tuples compile compile_buffers board_step answer_count answer_buffer board_after_run
calls v =
    record {
      write = λ buffer.
          answers _ (write_checks v buffer) refl
          (λ e. (none-given _ _ _ e, none-given _ _ _ e))
          (λ n e. (some-given _ _ _ n e, some-given _ _ _ n e));
      decide = λ a s. answers _ (byPolicy.decide_checks v a s) refl (none-given _ _ _) (some-given _ _ _);
      list = λ bits a buffer.
          answers _ (byTuples.list_checks v bits a buffer) refl
          (λ e. (none-given _ _ _ e, none-given _ _ _ e))
          (λ n e. (some-given _ _ _ n e, some-given _ _ _ n e));
      decide-by_tuples = λ bits s listing count. answers _ (byTuples.decide_checks v bits s listing count) refl (none-given _ _ _) (some-given _ _ _);
      compile = λ b.
          answers _ (compile_checks v b) refl
          (λ e. (none-given _ _ _ e, none-given _ _ _ e))
          (λ n e. (some-given _ _ _ n e, some-given _ _ _ n e));
      apart = apart v;
      session = λ l c b.
          answers _ (board_checks v l c b) (session-numbers v l c b)
          (λ e. (ap (λ (o : Out Board). o.reply) (none-given _ _ _ e), ap (λ (o : Out Board). o.state) (none-given _ _ _ e)))
          (λ n e. (ap (λ (o : Out Board). o.reply) (some-given _ _ _ n e), ap (λ (o : Out Board). o.state) (some-given _ _ _ n e)));
      run = λ l numbers buffer.
          answers _ (run_checks numbers buffer) refl
          (λ e. (none-given _ _ _ e, none-given _ _ _ e, none-given _ _ _ e))
          (λ n e. (some-given _ _ _ n e, some-given _ _ _ n e, some-given _ _ _ n e));
    }

pub demand1 : Claim
unfolding value_in
demand1 = record { read = because; no_policy = λ t n line e. rw e blank-refused; calls = calls }
