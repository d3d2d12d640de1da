-- Demands 1 and 3 and request 6 for the exported calls, which a screen makes: on the definitions that their contracts
-- name, `crossed_reading` to `crossed_step`.
use Rattle.std.specs.Prelude.{ℕ, ◌≤◌, ◌≡◌, true, false, cond, List, [], ◌∷◌, map, ◌↔◌, ◌⊎◌, eqb, length, take, None, Option, Result}
use Rattle.basis.specs.Lists.{any, over}
use Rattle.policy.specs.Policy.{Policy}
use Rattle.policy.specs.Read.{Accepted, Refused, read_text}
use Rattle.policy.specs.Text.{text_of}
use Rattle.policy.specs.Value.{value_of, policy_of}
use Rattle.policy.specs.Valid.{Yielded, valid}
use Rattle.policy.specs.Write.{write, write_buffer, write_checks}
use Rattle.policy.specs.Answers.{Reply, done, granted, denied, refused, decided, reply_number}
use Rattle.policy.specs.declared.value.PolicyValue.{PolicyValue}
use Rattle.policy.specs.declared.refusal.Refusal.{Refusal}
use Rattle.formula.specs.Truth.{Sets, grants}
use Rattle.formula.specs.Decide as byPolicy
use Rattle.tuples.specs.Tuples as byTuples
use Rattle.labels.specs.Compile.{Buffers, NU, NO, like_users, filled, compile, compile_buffers, compile_checks}
use Rattle.labels.specs.Apart.{Separates, apart_checks, Tells}
use Rattle.labels.specs.declared.Witness.{Witness}
use Rattle.board.specs.Machine.{Call, session_of, machine}
use Rattle.board.specs.Board.{Labels, labels_of, board_checks, board_reply, board_after, board_step, entry_at, fresh}
use Rattle.board.specs.declared.Board.{Board}
use Rattle.embed.specs.Answers.{crossed_reading, counted, crossed_counts, separation, crossed_step}
use Rattle.embed.specs.declared.crossed.CrossedReading.{CrossedReading}
use Rattle.embed.specs.declared.crossed.CrossedCounts.{CrossedCounts}
use Rattle.embed.specs.declared.crossed.Separation.{Separation}
use Rattle.embed.specs.declared.crossed.CrossedStep.{CrossedStep}
use Rattle.claims.specs.Answers.{Answers}
use Rattle.claims.specs.Demand1.{refusals_of}
use Rattle.claims.specs.Isolation.{names, calls_where, answers_where, Isolated}

-- ---- demand 1

-- the numbers by which reading refuses
abbrev pub OfReading : ℕ → Type 0
OfReading n = ((1 ≤ n) × (n ≤ 10)) ⊎ ((21 ≤ n) × (n ≤ 22))

-- the text of a card, read
abbrev pub card : List ℕ → CrossedReading
card t = crossed_reading (read_text t)

pub record Read (t : List ℕ) : Type 0 where
  -- refusal 0 is an accepted text, beside its policy value
  pub accepted : ((card t).refusal ≡ 0) ↔ ((p : Policy) × (read_text t ≡ Accepted p))
  pub value : (p : Policy) → read_text t ≡ Accepted p → (card t).policy ≡ value_of p
  -- else it is one of 1 to 10, 21 or 22 with its line, beside a policy that check 11 refuses
  pub refusal : (n line : ℕ) → read_text t ≡ Refused n line → ((card t).refusal ≡ n) × ((card t).line ≡ line) × OfReading n
  pub no_policy : (n line : ℕ) → read_text t ≡ Refused n line → valid (card t).policy ≡ false

-- what a separation says where it is no refusal
abbrev pub Separated : PolicyValue → ℕ → ℕ → Separation → Type 0
Separated v u w r =
    ((r ≡ record { answer = 0; action = 0; object = 0 }) × (like_users (policy_of v) u w ≡ true))
    ⊎ ((r.answer ≡ 1) × Separates (policy_of v) u w r.action r.object)

-- the calls on a policy value; in a field `refusal` 0 is none
pub record Calls (v : PolicyValue) : Type 0 where
  pub write : (buffer : List ℕ)
      → Answers (11 ∷ 20 ∷ []) (write_checks v buffer)
      ((counted (write v buffer) ≡ record { refusal = 0; count = length (text_of (policy_of v)) })
      × (write_buffer v buffer ≡ over (text_of (policy_of v)) buffer))
      (λ n. (counted (write v buffer) ≡ record { refusal = n; count = 0 }) × (write_buffer v buffer ≡ buffer))
  pub valid : (valid v ≡ true) ↔ Yielded v
  pub decide : (a : ℕ) (s : Sets)
      → Answers (11 ∷ 12 ∷ 19 ∷ []) (byPolicy.decide_checks v a s)
      (reply_number (byPolicy.decide v a s) ≡ reply_number (decided (grants (policy_of v) a s)))
      (λ n. reply_number (byPolicy.decide v a s) ≡ n)
  pub list : (bits a : ℕ) (buffer : List ℕ)
      → Answers (11 ∷ 12 ∷ 20 ∷ []) (byTuples.list_checks v bits a buffer)
      ((counted (byTuples.list v bits a buffer) ≡ record { refusal = 0; count = length (byTuples.tuples (policy_of v) a) })
      × (byTuples.list_buffer v bits a buffer ≡ over (byTuples.tuples (policy_of v) a) buffer))
      (λ n. (counted (byTuples.list v bits a buffer) ≡ record { refusal = n; count = 0 }) × (byTuples.list_buffer v bits a buffer ≡ buffer))
  pub decide-by_tuples : (bits : ℕ) (s : Sets) (listing : List ℕ) (count : ℕ)
      → Answers (11 ∷ 19 ∷ 20 ∷ []) (byTuples.decide_checks v bits s listing count)
      (reply_number (byTuples.decide_by_tuples v bits s listing count)
      ≡ reply_number (decided (any (eqb (byTuples.stored (policy_of v) s)) (take count listing))))
      (λ n. reply_number (byTuples.decide_by_tuples v bits s listing count) ≡ n)
  pub compile : (b : Buffers)
      → Answers (11 ∷ 20 ∷ []) (compile_checks v b)
      ((crossed_counts (compile v b) ≡ record { refusal = 0; users = NU (policy_of v); objects = NO (policy_of v) })
      × (compile_buffers v b ≡ filled (policy_of v) b))
      (λ n. (crossed_counts (compile v b) ≡ record { refusal = n; users = 0; objects = 0 }) × (compile_buffers v b ≡ b))
  pub apart : (u w : ℕ) (a : Result (Option Witness) Refusal) → Tells v u w a
      → Answers (11 ∷ 19 ∷ []) (apart_checks v u w) (Separated v u w (separation a))
      (λ n. separation a ≡ record { answer = n; action = 0; object = 0 })
  pub session : (l : Labels) (c : Call) (b : Board)
      → Answers (refusals_of c) (board_checks v l c b)
      (crossed_step (board_step v l c b)
      ≡ record { answer = reply_number (board_reply (policy_of v) l c (entry_at b (session_of c))); board = board_after c b })
      (λ n. crossed_step (board_step v l c b) ≡ record { answer = n; board = b })

pub record Demand1 : Type 0 where
  pub read : (t : List ℕ) → Read t
  pub calls : (p : PolicyValue) → Calls p
  pub fresh : (k : ℕ) → entry_at fresh k ≡ None

-- ---- demand 3: a screen's morning, from the text through reading and compiling to any list of session calls

-- what compiling gives, and leaves in the buffers
abbrev pub counts_of : PolicyValue → Buffers → CrossedCounts
counts_of p b = crossed_counts (compile p b)

abbrev pub buffers_of : PolicyValue → Buffers → Buffers
buffers_of p b = compile_buffers p b

-- what every request is handed: those buffers, with the NU and NO that compiling returned
abbrev pub handed : PolicyValue → Buffers → Labels
handed p b = labels_of (record { users = (counts_of p b).users; objects = (counts_of p b).objects }) (buffers_of p b)

-- a session call
abbrev pub called : PolicyValue → Labels → Call → Board → CrossedStep
called p l c b = crossed_step (board_step p l c b)

-- a list of them: the answers, and the board that the last one returned
pub record Morning : Type 0 where
  pub answers : List ℕ
  pub board : Board

-- each call gets the board that the call before it returned, refused or not
unfoldable pub morning : PolicyValue → Labels → List Call → Board → Morning
morning p l [] b = record { answers = []; board = b }
morning p l (c ∷ cs) b =
    let s = called p l c b in
    let m = morning p l cs s.board in
    record { answers = s.answer ∷ m.answers; board = m.board }

-- what an answer's number says: 0 denied, 1 granted, 2 done, else that refusal
abbrev pub reply_in : ℕ → Reply
reply_in n = cond (eqb n 0) denied (cond (eqb n 1) granted (cond (eqb n 2) done (refused n)))

-- the answers are the plain machine's, and the board ends with its sessions
pub record AsMachine (t : List ℕ) (calls : List Call) (m : Morning) : Type 0 where
  pub answers : map reply_in m.answers ≡ (machine t calls).replies
  pub sessions : (k : ℕ) → entry_at m.board k ≡ (machine t calls).state k

-- for every text that the exported read accepts, buffers that the exported compile fills, and list of calls
abbrev pub Demand3 : Type 0
Demand3 =
    (t : List ℕ) → (card t).refusal ≡ 0 → (b : Buffers) → (counts_of (card t).policy b).refusal ≡ 0
    → (calls : List Call) → AsMachine t calls (morning (card t).policy (handed (card t).policy b) calls fresh)

-- ---- request 6: another person's session is none of yours

-- the answers of a morning "from a fresh board"
abbrev pub answers_of : PolicyValue → Labels → List Call → List ℕ
answers_of p l calls = (morning p l calls fresh).answers

-- whatever policy, buffers, NU and NO are handed in
abbrev pub Isolation : Type 0
Isolation = (p : PolicyValue) (l : Labels) (s : ℕ) (calls : List Call) → Isolated (answers_of p l) s calls

-- with the policy of a card and its compiled buffers: then the calls naming s are also answered as the plain machine
-- answers them alone
pub record OnCard (t : List ℕ) (b : Buffers) (s : ℕ) (calls : List Call) : Type 0 where
  pub isolated : Isolated (answers_of (card t).policy (handed (card t).policy b)) s calls
  pub machine-alone : map reply_in (answers_where (names s) calls (answers_of (card t).policy (handed (card t).policy b) calls))
      ≡ (machine t (calls_where (names s) calls)).replies

abbrev pub CardIsolation : Type 0
CardIsolation =
    (t : List ℕ) → (card t).refusal ≡ 0 → (b : Buffers) → (counts_of (card t).policy b).refusal ≡ 0
    → (s : ℕ) (calls : List Call) → OnCard t b s calls
