-- Demand 2: what decides, what dominates, what is alike, sessions within reach and conflicts, and texts both ways.
use Rattle.std.specs.Prelude.{Option, None, Some, Result, Ok, Err}
use Prim.Native.Nat.{ℕ, ◌≤◌}
use mathlib.Core.Path.{◌≡◌, refl, ap, ◌∙◌}
use mathlib.Core.Bool.{Bool, true, false, cond, false≢true}
use mathlib.Core.List.{List, [], ◌∷◌}
use native.Mathlib.Omega.{arith}
use borrow.Author.Tests.{le-ltb}
use lib.Dec.{eqb}
use lib.ListN.{length, drop}
use lib.Seq.{take-append_seam}
use Rattle.basis.specs.Choice.{given, there, first_broken}
use Rattle.basis.specs.Lists.{over}
use Rattle.basis.proofs.Bools.{never}
use Rattle.policy.specs.Policy.{Policy, set_of_number}
use Rattle.policy.specs.Read.{Accepted, read_text}
use Rattle.policy.specs.Text.{text_of}
use Rattle.policy.specs.Value.{value_of, policy_of}
use Rattle.policy.specs.Write.{write, write_buffer}
use Rattle.policy.specs.Answers.{refused}
use Rattle.policy.specs.declared.refusal.Refusal.{Refusal}
use Rattle.policy.proofs.Parts.{parts, whole}
use Rattle.policy.proofs.RoundTrip.{read-sound, read-text, sound-read}
use Rattle.policy.proofs.Valid.{yielded_policy, yielded_valid, valid-iff, valid-stored}
use Rattle.labels.specs.Compile.{like_users}
use Rattle.labels.specs.Apart.{Separates, apart_refusal, Tells}
use Rattle.labels.specs.declared.Witness.{Witness}
use Rattle.labels.proofs.Compiling.{like_users-iff, user_label-iff, object_label-iff}
use Rattle.labels.proofs.Separation.{apart-unlike}
use Rattle.labels.proofs.Told.{not-refused}
use Rattle.board.specs.Machine.{Call, Entry, Map, Out, session_of, checks, entry_after, reply, step, put, empty, run, machine}
use Rattle.board.proofs.Kept.{fitting, fitting-parts, kept}
use Rattle.board.proofs.Judging.{few-each}
use Rattle.claims.specs.Demand2.{Told, Allowed, WrittenBack, Claim, WriteClaim, CheckClaim}
use Rattle.claims.proofs.Deciding.{decides, equal-sets}
use Rattle.claims.proofs.Dominance.{dominates}

-- ---- sessions hold what is allowed

abbrev Fitting : Policy → Map → Type 0
Fitting p m = (k : ℕ) → fitting p (m k) ≡ true

put-fitting : (p : Policy) (m : Map) (s : ℕ) (e : Option Entry) → Fitting p m → fitting p e ≡ true → Fitting p (put m s e)
unfolding put
put-fitting p m s e h f k = go (eqb k s)
  where
    go : (b : Bool) → fitting p (cond b e (m k)) ≡ true
    go true = f
    go false = h k

step-fitting : (p : Policy) (c : Call) (m : Map) → Fitting p m → Fitting p (step p c m).state
unfolding step
step-fitting p c m h = go (first_broken (checks p c (m (session_of c)))) refl
  where
    go : (r : Option ℕ) → first_broken (checks p c (m (session_of c))) ≡ r
        → Fitting p (given {B = Out Map} r
        (record { reply = reply p c (m (session_of c)); state = put m (session_of c) (entry_after c (m (session_of c))) })
        (λ n. record { reply = refused n; state = m })
        ).state
    go None q = put-fitting p m (session_of c) (entry_after c (m (session_of c))) h (kept p c (m (session_of c)) (h (session_of c)) q)
    go (Some n) q = h

run-fitting : (p : Policy) (calls : List Call) (m : Map) → Fitting p m → Fitting p (run (step p) calls m).state
unfolding run
run-fitting p [] m h = h
run-fitting p (c ∷ cs) m h = run-fitting p cs (step p c m).state (step-fitting p c m h)

machine-fitting : (t : List ℕ) (p : Policy) → read_text t ≡ Accepted p → (calls : List Call) → Fitting p (machine t calls).state
unfolding machine empty
machine-fitting t p e calls = rw e (run-fitting p calls empty (λ k. refl))

-- a value that is there
some-there : (o : Option ℕ) → there o ≡ true → (s : ℕ) × (o ≡ Some s)
some-there None q = absurd (false≢true q)
some-there (Some s) q = (s, refl)

allowed : (t : List ℕ) (p : Policy) → read_text t ≡ Accepted p → (calls : List Call) → Allowed t p calls
allowed t p e calls =
    let fits : (k : ℕ) (x : Entry) → (machine t calls).state k ≡ Some x → fitting p (Some x) ≡ true = λ k x q. rw q at (machine-fitting t p e calls k) in
    record {
      registered = λ k x q. some-there (set_of_number p.users x.user) (fitting-parts p x (fits k x q)).registered;
      in_reach = λ k x q. (fitting-parts p x (fits k x q)).reached;
      few-together = λ k x q. few-each p x.held (fitting-parts p x (fits k x q)).few;
    }

-- ---- alike as Apart tells it

told : (p : Policy) → policy_of (value_of p) ≡ p → (u w : ℕ) (r : Result (Option Witness) Refusal) → apart_refusal (value_of p) u w ≡ None → Tells (value_of p) u w r → Told p u w r
told p back u w (Ok None) n x =
    record {
      alike = (λ e. (like_users-iff p u w).0 (rw back at x.1), λ h. refl);
      apart = λ y e. absurd (let z : ◌≡◌ {A = ℕ} 0 1 = cc in omega arith);
      never-refused = λ y e. let z : ◌≡◌ {A = ℕ} 0 1 = cc in omega arith;
    }
told p back u w (Ok (Some y)) n x =
    let s : Separates p u w y.action y.object = rw back at x.1 in
    record {
      alike = (
        (λ e. absurd (let z : ◌≡◌ {A = ℕ} 0 1 = cc in omega arith)),
        (λ h. absurd (never (like_users p u w) ((like_users-iff p u w).1 h) (apart-unlike p u w y.action y.object s))),
      );
      apart = λ z e. let q : y ≡ z = cc in rw (← q) s;
      never-refused = λ z e. let q : ◌≡◌ {A = ℕ} 0 1 = cc in omega arith;
    }
told p back u w (Err y) n x = let z : ◌≡◌ {A = ℕ} 0 1 = cc in absurd (omega arith)

-- ---- texts

module _ (t : List ℕ) (p : Policy) (e : read_text t ≡ Accepted p) (buffer : List ℕ) (room : length t ≤ length buffer) where
  written_back : WrittenBack t p buffer
  unfolding write write_buffer first_broken
  written_back =
      let h = le-ltb (length buffer) (length t) room in
      record { count = rw (yielded_policy t p e, yielded_valid t p e, read-text t p e, h); bytes = rw (yielded_policy t p e, yielded_valid t p e, read-text t p e, h) }

pub write_read : WriteClaim
unfolding write write_buffer first_broken over
write_read v e buffer room =
    let p = policy_of v in
    let s = valid-stored v e in
    let h = le-ltb (length buffer) (length (text_of p)) room in
    record {
      count = length (text_of p);
      returned = rw (e, h);
      policy = p;
      accepted = rw (e, h) (ap read_text (take-append_seam (text_of p) (drop (length (text_of p)) buffer)) ∙ sound-read p s.1);
      same = s.0;
    }

pub demand2 : Claim
demand2 t p e =
    let ok = yielded_valid t p e in
    let back = yielded_policy t p e in
    record {
      decides = decides t p e;
      dominates = dominates p (parts p (whole p (read-sound t p e)).lists);
      equal-sets = equal-sets t p e;
      alike =
          record {
            users = λ u w hu hw. user_label-iff p u w;
            objects = λ o q ho hq. object_label-iff p o q;
            told = λ u w hu hw r.
                told p back u w r (not-refused (value_of p) u w ok (rw back hu) (rw back hw));
          };
      allowed = allowed t p e;
      said = record { passes = ok; says = back };
      written_back = written_back t p e;
    }

pub check11 : CheckClaim
check11 = valid-iff
