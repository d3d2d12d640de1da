-- The exported calls keep to demands 1 and 3, since the number of an answer says which it is, and to request 6.
use Rattle.std.specs.Prelude.{Option, None, Some, Result, Ok, Err}
use Prim.Native.Nat.{ℕ}
use mathlib.Core.Path.{◌≡◌, refl, ap, ap₂, ◌∙◌}
use mathlib.Core.Bool.{Bool, true, false}
use mathlib.Core.List.{List, [], ◌∷◌, map}
use mathlib.Core.Logic.{inl, inr, ⊎_elim}
use native.Mathlib.Omega.{arith}
use borrow.Author.Tests.{leb-true, ne_eqb}
use lib.Dec.{leb}
use Rattle.basis.specs.Choice.{given, Check, first_broken}
use Rattle.basis.specs.Lists.{all}
use Rattle.basis.proofs.Bools.{and_left, and_right, and_both}
use Rattle.basis.proofs.Lists.{get_or-blank}
use Rattle.policy.specs.Limits.{session_numbers, own_widths}
use Rattle.policy.specs.Policy.{Policy}
use Rattle.policy.specs.Read.{Outcome, Accepted, Refused, read_text}
use Rattle.policy.specs.Value.{value_of}
use Rattle.policy.specs.Answers.{Reply, done, granted, denied, refused, decided, reply_number, value_in}
use Rattle.policy.specs.declared.value.PolicyValue.{PolicyValue}
use Rattle.policy.specs.declared.refusal.Refusal.{Refusal}
use Rattle.policy.proofs.Valid.{yielded_valid, yielded_policy}
use Rattle.formula.specs.Truth.{grants}
use Rattle.labels.specs.Compile.{Buffers, too_short, compile, compile_buffers}
use Rattle.labels.specs.declared.Witness.{Witness}
use Rattle.board.specs.Machine.{Call, opens, adds, drops, closes, requests, session_of, Entry, Map, Out, checks, reply, sets_asked, put, empty, entry_after, policy_in, step, run, machine}
use Rattle.board.specs.Board.{Labels, board_step, closed, entry_at, fresh}
use Rattle.board.specs.declared.Board.{Board}
use Rattle.embed.specs.Answers.{counted, crossed_counts, separation}
use Rattle.claims.specs.Demand1.{ApartResult, ApartRefuses}
use Rattle.claims.specs.Demand3.{Enough, with_counts}
use Rattle.claims.specs.Isolation.{names, calls_where, board_answers}
use Rattle.claims.specs.Reading.{Because}
use Rattle.claims.specs.Exported.{OfReading, card, Read, Separated, Calls, Demand1, counts_of, handed, called, morning, reply_in, Demand3, answers_of, Isolation, CardIsolation}
use Rattle.claims.proofs.Answers.{met, met_all, through}
use Rattle.claims.proofs.Reading.{because}
use Rattle.claims.proofs.Demand1.{demand1}
use Rattle.claims.proofs.Demand2.{check11}
use Rattle.claims.proofs.Demand3.{demand3}
use Rattle.claims.proofs.Isolation.{isolated-map, isolation}

-- ---- reading

-- refusals of reading are 1 to 10, 21 and 22
number_of : (t : List ℕ) (n line : ℕ) → Because t (Refused n line) → OfReading n
number_of t n line (inl w) = inl (omega (arith, w.number), omega (arith, w.number))
number_of t n line (inr (inl w)) = ⊎_elim (λ h. inl (omega (arith, h.0), omega (arith, h.1))) inr w.number
number_of t n line (inr (inr w)) = inl (omega (arith, w.number), omega (arith, w.number))

-- none of them is 0
not-zero : (n : ℕ) → OfReading n → n ≡ 0 → ⊥
not-zero n w e = ⊎_elim (λ h. omega (arith, h.0, e)) (λ h. omega (arith, h.0, e)) w

module _ (t : List ℕ) where
  refused-number : (n line : ℕ) → read_text t ≡ Refused n line → OfReading n
  refused-number n line e = number_of t n line (rw e at (because t))

  value-is : (p : Policy) → read_text t ≡ Accepted p → (card t).policy ≡ value_of p
  unfolding value_in
  value-is p e = rw e

  accepted : (card t).refusal ≡ 0 → (p : Policy) × (read_text t ≡ Accepted p)
  accepted = go (read_text t) refl
    where
      go : (o : Outcome) → read_text t ≡ o → (card t).refusal ≡ 0 → (p : Policy) × (read_text t ≡ Accepted p)
      go (Accepted p) e h = (p, e)
      go (Refused n line) e h = absurd (not-zero n (refused-number n line e) (rw e at h))

  read : Read t
  read =
      record {
        accepted = (accepted, λ w. rw w.1);
        value = value-is;
        refusal = λ n line e. (rw e, rw e, refused-number n line e);
        no_policy = demand1.no_policy t;
      }

-- ---- the other calls

separated : (v : PolicyValue) (u w : ℕ) (a : Result (Option Witness) Refusal) → ApartResult v u w a → Separated v u w (separation a)
separated v u w (Ok None) x = inl (refl, x)
separated v u w (Ok (Some y)) x = inr (refl, x)
separated v u w (Err r) x = absurd x

unseparated : (a : Result (Option Witness) Refusal) (n : ℕ) → ApartRefuses a n → separation a ≡ record { answer = n; action = 0; object = 0 }
unseparated (Ok None) n x = absurd x
unseparated (Ok (Some y)) n x = absurd x
unseparated (Err r) n x = rw x

calls : (v : PolicyValue) → Calls v
calls v =
    let d = demand1.calls v in
    record {
      write = λ buffer. through (λ x. (ap counted x.0, x.1)) (λ n x. (ap counted x.0, x.1)) (d.write buffer);
      valid = check11 v;
      decide = λ a s. through (ap reply_number) (λ n. ap reply_number) (d.decide a s);
      list = λ bits a buffer. through (λ x. (ap counted x.0, x.1)) (λ n x. (ap counted x.0, x.1)) (d.list bits a buffer);
      decide-by_tuples = λ bits s listing count. through (ap reply_number) (λ n. ap reply_number) (d.decide-by_tuples bits s listing count);
      compile = λ b. through (λ x. (ap crossed_counts x.0, x.1)) (λ n x. (ap crossed_counts x.0, x.1)) (d.compile b);
      apart = λ u w a x. through (separated v u w a) (unseparated a) (d.apart u w a x);
      session = λ l c b. through (λ x. rw (x.0, x.1)) (λ n x. rw (x.0, x.1)) (d.session l c b);
    }

none-fresh : (k : ℕ) → entry_at fresh k ≡ None
unfolding entry_at fresh
none-fresh k = rw (get_or-blank session_numbers k closed)

pub exported1 : Demand1
exported1 = record { read = read; calls = calls; fresh = none-fresh }

-- ---- the number of an answer says which it is

-- no refusal of a session call has the number of another answer
abbrev telling : Reply → Bool
telling done = true
telling granted = true
telling denied = true
telling (refused n) = leb 3 n

reply-told : (r : Reply) → telling r ≡ true → reply_in (reply_number r) ≡ r
reply-told done e = refl
reply-told granted e = refl
reply-told denied e = refl
reply-told (refused n) e =
    let h = leb-true 3 n e in
    rw (ne_eqb n 0 (λ q. omega arith), ne_eqb n 1 (λ q. omega arith), ne_eqb n 2 (λ q. omega arith))

replies-told : (rs : List Reply) → all telling rs ≡ true → map reply_in (map reply_number rs) ≡ rs
unfolding all
replies-told [] e = refl
replies-told (r ∷ rs) e = ap₂ ◌∷◌ (reply-told r (and_left _ _ e)) (replies-told rs (and_right (telling r) _ e))

abbrev high : Check → Bool
high c = leb 3 c.number

checks-high : (p : Policy) (c : Call) (e : Option Entry) → all high (checks p c e) ≡ true
unfolding all checks
checks-high p (opens u s set) e = refl
checks-high p (adds u s set) e = refl
checks-high p (drops u s set) e = refl
checks-high p (closes u s) e = refl
checks-high p (requests s a n) e = refl

decided-telling : (b : Bool) → telling (decided b) ≡ true
decided-telling true = refl
decided-telling false = refl

reply-telling : (p : Policy) (c : Call) (e : Option Entry) → telling (reply p c e) ≡ true
unfolding reply
reply-telling p (opens u s set) e = refl
reply-telling p (adds u s set) e = refl
reply-telling p (drops u s set) e = refl
reply-telling p (closes u s) e = refl
reply-telling p (requests s a n) e = decided-telling (grants p a (sets_asked p n e))

step-telling : (p : Policy) (c : Call) (m : Map) → telling (step p c m).reply ≡ true
unfolding step
step-telling p c m = go (first_broken (checks p c (m (session_of c)))) refl
  where
    go : (r : Option ℕ) → first_broken (checks p c (m (session_of c))) ≡ r
        → telling (given {B = Out Map} r
        (record { reply = reply p c (m (session_of c)); state = put m (session_of c) (entry_after c (m (session_of c))) })
        (λ n. record { reply = refused n; state = m })
        ).reply
        ≡ true
    go None q = reply-telling p c (m (session_of c))
    go (Some n) q = met_all high (checks p c (m (session_of c))) n (checks-high p c (m (session_of c))) (met _ n q)

run-telling : (p : Policy) (cs : List Call) (m : Map) → all telling (run (step p) cs m).replies ≡ true
unfolding run all
run-telling p [] m = refl
run-telling p (c ∷ cs) m = and_both (telling (step p c m).reply) _ (step-telling p c m) (run-telling p cs (step p c m).state)

machine-told : (t : List ℕ) (cs : List Call) → map reply_in (map reply_number (machine t cs).replies) ≡ (machine t cs).replies
unfolding machine
machine-told t cs = replies-told _ (run-telling (policy_in (read_text t)) cs empty)

-- ---- a screen's morning

-- it is the board's run, with each reply as its number
answers-run : (p : PolicyValue) (l : Labels) (cs : List Call) (b : Board)
    → (morning p l cs b).answers ≡ map reply_number (run (board_step p l) cs b).replies
unfolding morning run
answers-run p l [] b = refl
answers-run p l (c ∷ cs) b = ap (λ (ns : List ℕ). (called p l c b).answer ∷ ns) (answers-run p l cs (called p l c b).board)

board-run : (p : PolicyValue) (l : Labels) (cs : List Call) (b : Board)
    → (morning p l cs b).board ≡ (run (board_step p l) cs b).state
unfolding morning run
board-run p l [] b = refl
board-run p l (c ∷ cs) b = board-run p l cs (called p l c b).board

module _ (t : List ℕ) (p : Policy) (e : read_text t ≡ Accepted p) (b : Buffers) where
  -- a compilation that is not refused is made for the form's own widths, and has room
  room : (crossed_counts (compile (value_of p) b)).refusal ≡ 0 → Enough p b
  unfolding compile first_broken value_of
  room h = go (own_widths p.form b.widths) (too_short p b) refl refl
    where
      go : (w s : Bool) → own_widths p.form b.widths ≡ w → too_short p b ≡ s → Enough p b
      go false s own q = let z : ◌≡◌ {A = ℕ} 11 0 = rw (yielded_policy t p e, yielded_valid t p e, own) at h in absurd (omega arith)
      go true true own q = let z : ◌≡◌ {A = ℕ} 20 0 = rw (yielded_policy t p e, yielded_valid t p e, own, q) at h in absurd (omega arith)
      go true false own q = record { own = own; long = q }

  -- requests are handed the text's value, with its NU and NO
  handed-is : (q : PolicyValue) → q ≡ value_of p → (counts_of q b).refusal ≡ 0
      → handed q b ≡ with_counts p (compile_buffers (value_of p) b)
  handed-is q v h = rw (v, ((demand3 t p e).compiled-to b (room (rw v at h))).gives-counts)

pub exported3 : Demand3
exported3 t a b h cs =
    let q = (card t).policy in
    let w = accepted t a in
    let p = w.0 in
    let v = value-is t p w.1 in
    let l = handed-is t p w.1 b q v h in
    let d = (demand3 t p w.1).sessions b (room t p w.1 b (rw v at h)) cs in
    record {
      answers = rw (answers-run q (handed q b) cs fresh, l, v, d.answers) (machine-told t cs);
      sessions = λ k. rw (board-run q (handed q b) cs fresh, l, v) (d.entries k);
    }

-- ---- one session of it

pub exported_isolation : Isolation
exported_isolation p l s calls =
    isolated-map reply_number (board_answers p l) (answers_of p l) (λ cs. answers-run p l cs fresh) s calls (isolation p l s calls)

pub card-isolation : CardIsolation
card-isolation t a b h s calls =
    let i = exported_isolation (card t).policy (handed (card t).policy b) s calls in
    record { isolated = i; machine-alone = ap (map reply_in) i.alone ∙ (exported3 t a b h (calls_where (names s) calls)).answers }
