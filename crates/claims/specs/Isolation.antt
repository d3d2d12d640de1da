-- Request 6, another person's session is none of yours: "For every two lists of calls from a fresh board under one
-- policy with its compiled buffers, if the open, add, drop, close and request calls naming session s are the same in
-- both and in the same order, the calls naming s get the same answers, refusals included."
use Rattle.std.specs.Prelude.{ℕ, ◌≡◌, Bool, cond, List, [], ◌∷◌, eqb}
use Rattle.policy.specs.Policy.{Policy}
use Rattle.policy.specs.Read.{Accepted, read_text}
use Rattle.policy.specs.Value.{value_of}
use Rattle.policy.specs.Answers.{Reply}
use Rattle.policy.specs.declared.value.PolicyValue.{PolicyValue}
use Rattle.labels.specs.Compile.{Buffers, compile_buffers}
use Rattle.board.specs.Machine.{Call, session_of, run, machine}
use Rattle.board.specs.Board.{Labels, board_step, fresh}
use Rattle.claims.specs.Demand3.{Enough, with_counts}

-- a call names session s, which is any number, also one above 31
abbrev pub names : ℕ → Call → Bool
names s c = eqb s (session_of c)

-- the calls of a list that pass a test, "in the same order"
unfoldable pub calls_where : (Call → Bool) → List Call → List Call
calls_where f [] = []
calls_where f (c ∷ cs) = cond (f c) (c ∷ calls_where f cs) (calls_where f cs)

-- of the answers to a list, one for each call, those to the calls that pass
unfoldable pub answers_where : {A : Type 0} → (Call → Bool) → List Call → List A → List A
answers_where f [] xs = []
answers_where f (c ∷ cs) [] = []
answers_where f (c ∷ cs) (x ∷ xs) = cond (f c) (x ∷ answers_where f cs xs) (answers_where f cs xs)

-- in a list of calls session s is isolated from all others; `answers` is what answers such lists
pub record Isolated {A : Type 0} (answers : List Call → List A) (s : ℕ) (calls : List Call) : Type 0 where
  -- the request's sentence, for this list and any other
  pub same : (others : List Call) → calls_where (names s) calls ≡ calls_where (names s) others
      → answers_where (names s) calls (answers calls) ≡ answers_where (names s) others (answers others)
  -- one of these is the list of the calls naming s, with nobody else at the screen
  pub alone : answers_where (names s) calls (answers calls) ≡ answers (calls_where (names s) calls)

-- the board's answers to a list of calls "from a fresh board"
abbrev pub board_answers : PolicyValue → Labels → List Call → List Reply
board_answers v l calls = (run (board_step v l) calls fresh).replies

-- whatever the policy value, and whatever buffers, NU and NO the requests are lent
abbrev pub Claim : Type 0
Claim = (v : PolicyValue) (l : Labels) (s : ℕ) (calls : List Call) → Isolated (board_answers v l) s calls

-- "under one policy with its compiled buffers", from the text on: then the answers to the calls naming s are also those
-- that the plain machine gives to these calls alone
pub record FromText (t : List ℕ) (p : Policy) (b : Buffers) (s : ℕ) (calls : List Call) : Type 0 where
  pub isolated : Isolated (board_answers (value_of p) (with_counts p (compile_buffers (value_of p) b))) s calls
  pub machine-alone : answers_where (names s) calls (board_answers (value_of p) (with_counts p (compile_buffers (value_of p) b)) calls)
      ≡ (machine t (calls_where (names s) calls)).replies

abbrev pub TextClaim : Type 0
TextClaim =
    (t : List ℕ) (p : Policy) → read_text t ≡ Accepted p → (b : Buffers) → Enough p b
    → (s : ℕ) (calls : List Call) → FromText t p b s calls
