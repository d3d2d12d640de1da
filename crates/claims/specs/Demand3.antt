-- Demand 3: "for every accepted text and every list of calls from a fresh board, each answer is the plain machine's and
-- the board ends with its sessions; tuples and labels are exactly document 01's, labels as few as any labelling that
-- grants alike." One claim.
use Rattle.std.specs.Prelude.{ℕ, ◌≤◌, ◌<◌, ◌≡◌, true, false, List, ◌∷◌, ◌↔◌, length, get_or, None, Ok}
use Rattle.basis.specs.Choice.{check, first_broken}
use Rattle.basis.specs.Lists.{over}
use Rattle.policy.specs.Limits.{actions, own_widths, tuple_bits}
use Rattle.policy.specs.Policy.{Policy, sets}
use Rattle.policy.specs.Read.{Accepted, read_text}
use Rattle.policy.specs.Value.{value_of, policy_of}
use Rattle.policy.specs.Answers.{granted, refused, decided}
use Rattle.policy.specs.declared.value.PolicyValue.{PolicyValue}
use Rattle.formula.specs.Truth.{Sets, at, grants}
use Rattle.tuples.specs.Tuples.{tuples, list, list_buffer, decide_by_tuples}
use Rattle.labels.specs.Labelling.{Labelling, user_labels, object_labels, GrantsAlike}
use Rattle.labels.specs.Compile.{Buffers, too_short, NU, NO, counts, user_result, object_result, table_result, compile, compile_buffers, compiled}
use Rattle.board.specs.Machine.{Call, requests, run, machine, checks, sets_asked, Out}
use Rattle.board.specs.Board.{Labels, labels_of, board_step, fresh, entry_at, unfit, reads_past_end, grants_by_labels}
use Rattle.board.specs.declared.Board.{Board}

-- "rising, each once": each number is above those before it
abbrev pub Rising : List ℕ → Type 0
Rising ns = (i j : ℕ) → i < j → j < length ns → get_or ns i 0 < get_or ns j 0

-- ---- tuples: "for every action the tuples listed are document 01's, rising, each once, with their count, and grant
-- exactly when the formula is true" or a pair holds, in a buffer long enough and not written to since, and of the form's
-- own width

pub record Tuples (p : Policy) (a : ℕ) : Type 0 where
  pub rising : Rising (tuples p a)
  pub listed : (buffer : List ℕ) → length (tuples p a) ≤ length buffer → list (value_of p) (tuple_bits p.form) a buffer ≡ Ok (length (tuples p a))
  pub stored-are : (buffer : List ℕ) → length (tuples p a) ≤ length buffer → list_buffer (value_of p) (tuple_bits p.form) a buffer ≡ over (tuples p a) buffer
  pub decides : (buffer : List ℕ) → length (tuples p a) ≤ length buffer → (u o : ℕ) → u < sets p.user → o < sets p.object
      → decide_by_tuples (value_of p) (tuple_bits p.form) (at u o) (list_buffer (value_of p) (tuple_bits p.form) a buffer) (length (tuples p a)) ≡ decided (grants p a (at u o))

-- ---- labels: "the compiled labelling is document 01's, grants alike, uses NU and NO, and no labelling that grants
-- alike uses fewer on either side"

abbrev pub GrantsAs : Policy → Labelling → Type 0
GrantsAs p l = GrantsAlike (grants p) (actions p.form) (sets p.user) (sets p.object) l

-- the labelling that stands in buffers that were lent to the compiler, with the NU and NO that it returned
abbrev pub labelling_in : Policy → Buffers → Labelling
labelling_in p b = compiled (counts p) (compile_buffers (value_of p) b)

-- "demand 3's calls are made for the form's own" widths; and in buffers long enough
pub record Enough (p : Policy) (b : Buffers) : Type 0 where
  pub own : own_widths p.form b.widths ≡ true
  pub long : too_short p b ≡ false

-- in such buffers: what compiling gives and leaves, and what that labelling is
pub record Compiled (p : Policy) (b : Buffers) : Type 0 where
  pub gives-counts : compile (value_of p) b ≡ Ok (counts p)
  pub users : (compile_buffers (value_of p) b).users ≡ over (user_result p) b.users
  pub objects : (compile_buffers (value_of p) b).objects ≡ over (object_result p) b.objects
  pub table : (compile_buffers (value_of p) b).table ≡ over (table_result p) b.table
  pub alike : GrantsAs p (labelling_in p b)
  pub users-used : user_labels (labelling_in p b) (sets p.user) ≡ NU p
  pub objects-used : object_labels (labelling_in p b) (sets p.object) ≡ NO p

pub record Fewest (p : Policy) : Type 0 where
  pub users : (l : Labelling) → GrantsAs p l → NU p ≤ user_labels l (sets p.user)
  pub objects : (l : Labelling) → GrantsAs p l → NO p ≤ object_labels l (sets p.object)

-- ---- sessions: every list of calls, refused ones included, from a fresh board, with the text's policy value and the
-- compiler's buffers, NU and NO

-- buffers, with the NU and NO that the compiler returns
abbrev pub with_counts : Policy → Buffers → Labels
with_counts p b = labels_of (counts p) b

pub record Sessions (t : List ℕ) (p : Policy) (b : Buffers) (calls : List Call) : Type 0 where
  pub answers : (run (board_step (value_of p) (with_counts p (compile_buffers (value_of p) b))) calls fresh).replies ≡ (machine t calls).replies
  pub entries : (k : ℕ)
      → entry_at (run (board_step (value_of p) (with_counts p (compile_buffers (value_of p) b))) calls fresh).state k ≡ (machine t calls).state k

-- ---- the claim

pub record Demand3 (t : List ℕ) (p : Policy) : Type 0 where
  pub tuples-listed : (a : ℕ) → a < actions p.form → Tuples p a
  pub compiled-to : (b : Buffers) → Enough p b → Compiled p b
  pub fewest : Fewest p
  pub sessions : (b : Buffers) → Enough p b → (calls : List Call) → Sessions t p b calls

abbrev pub Claim : Type 0
Claim = (t : List ℕ) (p : Policy) → read_text t ≡ Accepted p → Demand3 t p

-- ---- the last sentence: one request, whatever the board, policy value, buffers, NU and NO handed in

-- the set that the session holds, and that of the object
abbrev pub sets_at : PolicyValue → Board → ℕ → ℕ → Sets
sets_at v b s n = sets_asked (policy_of v) n (entry_at b s)

abbrev pub answered : PolicyValue → Labels → Board → ℕ → ℕ → ℕ → Out Board
answered v l b s a n = board_step v l (requests s a n) b

pub record OneRequest (v : PolicyValue) (l : Labels) (b : Board) (s a n : ℕ) : Type 0 where
  -- a request that is not refused is granted exactly when the bit at the labels is set
  pub by_bit : ((k : ℕ) → (answered v l b s a n).reply ≡ refused k → ⊥)
      → ((answered v l b s a n).reply ≡ granted) ↔ (grants_by_labels l a (sets_at v b s n) ≡ true)
  -- where no lower refusal applies, it gets 20 exactly when one of the three places lies past its buffer's end
  pub past_end : first_broken (check 11 (unfit v l (requests s a n) b) ∷ checks (policy_of v) (requests s a n) (entry_at b s)) ≡ None
      → ((answered v l b s a n).reply ≡ refused 20) ↔ (reads_past_end l (sets_at v b s n) ≡ true)
  -- and the board stays
  pub kept : (answered v l b s a n).state ≡ b

abbrev pub RequestClaim : Type 0
RequestClaim = (v : PolicyValue) (l : Labels) (b : Board) (s a n : ℕ) → OneRequest v l b s a n
