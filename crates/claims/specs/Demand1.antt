-- Demand 1: "every text, number and buffer handed to a call gets its result or one numbered refusal; every call ends; a
-- refusal changes neither sessions nor any lent buffer." That every call ends and gives just one answer is what a
-- proved function is; the rest is here, call by call, on the definitions that the contracts equate the calls with, for
-- good and bad input. Each call's numbers are document 01's list for it, with document 02's.
use Rattle.std.specs.Prelude.{ℕ, ◌≡◌, true, false, List, [], ◌∷◌, length, take, eqb, Ok, Err, Option, None, Some, Result}
use Rattle.basis.specs.Lists.{any, over}
use Rattle.policy.specs.Read.{Refused, read_text}
use Rattle.policy.specs.Text.{text_of}
use Rattle.policy.specs.Value.{policy_of}
use Rattle.policy.specs.Valid.{valid}
use Rattle.policy.specs.Write.{write, write_buffer, write_checks}
use Rattle.policy.specs.Answers.{number_of, refused, decided, value_in}
use Rattle.policy.specs.declared.value.PolicyValue.{PolicyValue}
use Rattle.policy.specs.declared.refusal.Refusal.{Refusal}
use Rattle.formula.specs.Truth.{Sets, grants}
use Rattle.formula.specs.Decide as byPolicy
use Rattle.tuples.specs.Tuples as byTuples
use Rattle.labels.specs.Compile.{like_users, counts, Buffers, filled, compile, compile_buffers, compile_checks}
use Rattle.labels.specs.Apart.{Separates, apart_checks, Tells}
use Rattle.labels.specs.declared.Witness.{Witness}
use Rattle.board.specs.Machine.{Call, opens, adds, drops, closes, requests, session_of}
use Rattle.board.specs.Board.{Labels, board_checks, board_reply, board_after, board_step, entry_at, fresh}
use Rattle.board.specs.declared.Board.{Board}
use Rattle.runner.specs.Calls.{items_in}
use Rattle.runner.specs.Run.{bytes_of, board_run, run_checks, answer_count, answer_buffer, board_after_run}
use Rattle.claims.specs.Answers.{Answers}
use Rattle.claims.specs.Reading.{Because}

-- "Apart (11, 19): for two user sets, either 'alike' or some action and object set that tells them apart"
abbrev pub ApartResult : PolicyValue → ℕ → ℕ → Result (Option Witness) Refusal → Type 0
ApartResult v u w (Ok None) = like_users (policy_of v) u w ≡ true
ApartResult v u w (Ok (Some x)) = Separates (policy_of v) u w x.action x.object
ApartResult v u w (Err r) = ⊥

abbrev pub ApartRefuses : Result (Option Witness) Refusal → ℕ → Type 0
ApartRefuses (Ok None) n = ⊥
ApartRefuses (Ok (Some x)) n = ⊥
ApartRefuses (Err r) n = number_of r ≡ n

-- the refusals of the session calls: 11, those of 12 to 19 and 23 that concern the call, and 20 for a request's buffers
abbrev pub refusals_of : Call → List ℕ
refusals_of (opens u s set) = 11 ∷ 13 ∷ 14 ∷ 16 ∷ 19 ∷ 23 ∷ []
refusals_of (adds u s set) = 11 ∷ 13 ∷ 14 ∷ 17 ∷ 18 ∷ 19 ∷ 23 ∷ []
refusals_of (drops u s set) = 11 ∷ 13 ∷ 14 ∷ 17 ∷ 18 ∷ 19 ∷ []
refusals_of (closes u s) = 11 ∷ 13 ∷ 14 ∷ 17 ∷ 18 ∷ []
refusals_of (requests s a n) = 11 ∷ 12 ∷ 13 ∷ 15 ∷ 17 ∷ 20 ∷ []

-- the calls that are handed a policy value, whatever value it is
pub record Calls (v : PolicyValue) : Type 0 where
  pub write : (buffer : List ℕ)
      → Answers (11 ∷ 20 ∷ []) (write_checks v buffer)
      ((write v buffer ≡ Ok (length (text_of (policy_of v)))) × (write_buffer v buffer ≡ over (text_of (policy_of v)) buffer))
      (λ n. (write v buffer ≡ Err n) × (write_buffer v buffer ≡ buffer))
  pub decide : (a : ℕ) (s : Sets)
      → Answers (11 ∷ 12 ∷ 19 ∷ []) (byPolicy.decide_checks v a s)
      (byPolicy.decide v a s ≡ decided (grants (policy_of v) a s))
      (λ n. byPolicy.decide v a s ≡ refused n)
  pub list : (bits a : ℕ) (buffer : List ℕ)
      → Answers (11 ∷ 12 ∷ 20 ∷ []) (byTuples.list_checks v bits a buffer)
      ((byTuples.list v bits a buffer ≡ Ok (length (byTuples.tuples (policy_of v) a)))
      × (byTuples.list_buffer v bits a buffer ≡ over (byTuples.tuples (policy_of v) a) buffer))
      (λ n. (byTuples.list v bits a buffer ≡ Err n) × (byTuples.list_buffer v bits a buffer ≡ buffer))
  pub decide-by_tuples : (bits : ℕ) (s : Sets) (listing : List ℕ) (count : ℕ)
      → Answers (11 ∷ 19 ∷ 20 ∷ []) (byTuples.decide_checks v bits s listing count)
      (byTuples.decide_by_tuples v bits s listing count ≡ decided (any (eqb (byTuples.stored (policy_of v) s)) (take count listing)))
      (λ n. byTuples.decide_by_tuples v bits s listing count ≡ refused n)
  pub compile : (b : Buffers)
      → Answers (11 ∷ 20 ∷ []) (compile_checks v b)
      ((compile v b ≡ Ok (counts (policy_of v))) × (compile_buffers v b ≡ filled (policy_of v) b))
      (λ n. (compile v b ≡ Err n) × (compile_buffers v b ≡ b))
  pub apart : (u w : ℕ) (r : Result (Option Witness) Refusal) → Tells v u w r
      → Answers (11 ∷ 19 ∷ []) (apart_checks v u w) (ApartResult v u w r) (ApartRefuses r)
  pub session : (l : Labels) (c : Call) (b : Board)
      → Answers (refusals_of c) (board_checks v l c b)
      (((board_step v l c b).reply ≡ board_reply (policy_of v) l c (entry_at b (session_of c))) × ((board_step v l c b).state ≡ board_after c b))
      (λ n. ((board_step v l c b).reply ≡ refused n) × ((board_step v l c b).state ≡ b))
  pub run : (l : Labels) (numbers buffer : List ℕ)
      → Answers (20 ∷ []) (run_checks numbers buffer)
      ((answer_count numbers buffer ≡ Ok (length (items_in numbers)))
      × (answer_buffer v l numbers buffer ≡ over (bytes_of numbers (board_run v l numbers)) buffer)
      × (board_after_run v l numbers buffer ≡ (board_run v l numbers).state))
      (λ n. (answer_count numbers buffer ≡ Err n) × (answer_buffer v l numbers buffer ≡ buffer) × (board_after_run v l numbers buffer ≡ fresh))

pub record Demand1 : Type 0 where
  -- reading is refused by 1 to 10, 21 and 22, with the line
  pub read : (t : List ℕ) → Because t (read_text t)
  -- "A refused read yields no policy": check 11 refuses the value that stands beside a refusal
  pub no_policy : (t : List ℕ) (n line : ℕ) → read_text t ≡ Refused n line → valid (value_in (read_text t)) ≡ false
  pub calls : (v : PolicyValue) → Calls v

abbrev pub Claim : Type 0
Claim = Demand1
