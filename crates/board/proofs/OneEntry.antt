-- A call looks at one session's entry and changes no other: its answer and what it leaves go by that entry alone. So
-- does the plain machine, and what goes by entries as it does answers every list of calls as it does. Demand 3 and the
-- isolation of sessions both rest on this.
use Rattle.std.specs.Prelude.{Option, None, Some}
use Prim.Native.Nat.{ℕ}
use mathlib.Core.Path.{◌≡◌, refl, sym, ap, ◌∙◌}
use mathlib.Core.Bool.{Bool, true, false, cond}
use mathlib.Core.List.{List}
use lib.Dec.{eqb}
use borrow.Author.Tests.{eqb-true}
use Rattle.basis.specs.Choice.{given, first_broken}
use Rattle.policy.specs.Policy.{Policy}
use Rattle.policy.specs.Answers.{Reply, refused}
use Rattle.board.specs.Machine.{Entry, Map, put, Call, session_of, checks, entry_after, reply, Out, step, run}
use Rattle.board.proofs.Run.{Alike, RanAlike, run-alike}

-- a call's answer and the state after it, or its refusal and the state before it
abbrev pub ended : {S : Type 0} → Option ℕ → Reply → S → S → Out S
ended r y after before = given r (record { reply = y; state = after }) (λ n. record { reply = refused n; state = before })

-- what a call answers and makes of its session's entry
abbrev pub EntryStep : Type 0
EntryStep = Call → Option Entry → Out (Option Entry)

-- the plain machine's
unfoldable pub machine_entry : Policy → EntryStep
machine_entry p c e = ended (first_broken (checks p c e)) (reply p c e) (entry_after c e) e

-- the calls f go by entries as g says, on states that are sound
pub record ByEntry {S : Type 0} (Sound : S → Type 0) (at : S → Map) (g : EntryStep) (f : Call → S → Out S) : Type 0 where
  pub reply : (c : Call) (s : S) → Sound s → (f c s).reply ≡ (g c (at s (session_of c))).reply
  pub entries : (c : Call) (s : S) → Sound s → (k : ℕ)
      → at (f c s).state k ≡ put (at s) (session_of c) (g c (at s (session_of c))).state k
  pub sound : (c : Call) (s : S) → Sound s → Sound (f c s).state

-- an entry put back where it is
pub put_same : (m : Map) (s k : ℕ) → m k ≡ put m s (m s) k
unfolding put
put_same m s k = go (eqb k s) refl
  where
    go : (t : Bool) → eqb k s ≡ t → m k ≡ cond t (m s) (m k)
    go true q = ap m (eqb-true k s q)
    go false q = refl

-- a call that ends goes by its session's entry where what it leaves when it is not refused does
module _ {S : Type 0} (at : S → Map) (y : Reply) (after before : S) (s : ℕ) (e : Option Entry) where
  pub ended-reply : (r : Option ℕ) → (ended r y after before).reply ≡ (ended r y e (at before s)).reply
  ended-reply None = refl
  ended-reply (Some n) = refl

  pub ended-entries : (r : Option ℕ) → (r ≡ None → (k : ℕ) → at after k ≡ put (at before) s e k)
      → (k : ℕ) → at (ended r y after before).state k ≡ put (at before) s (ended r y e (at before s)).state k
  ended-entries None h = h refl
  ended-entries (Some n) h = put_same (at before) s

-- the machine's calls do
pub machine-by_entry : (p : Policy) → ByEntry {S = Map} (λ m. Unit {0}) (λ m. m) (machine_entry p) (step p)
unfolding step machine_entry
machine-by_entry p =
    record {
      reply = λ c m u. ended-reply (λ m. m) (reply p c (m (session_of c))) _ m (session_of c) _ (first_broken (checks p c (m (session_of c))));
      entries = λ c m u.
          ended-entries (λ m. m) (reply p c (m (session_of c))) (put m (session_of c) (entry_after c (m (session_of c)))) m (session_of c)
          (entry_after c (m (session_of c))) (first_broken (checks p c (m (session_of c)))) (λ q k. refl);
      sound = λ c m u. tt;
    }

-- a sound state with the entries of a map
pub record Same {S : Type 0} (Sound : S → Type 0) (at : S → Map) (s : S) (m : Map) : Type 0 where
  pub sound : Sound s
  pub entries : (k : ℕ) → at s k ≡ m k

-- calls that go by entries as the machine does, on every entry of a sound state
module _ (p : Policy) {S : Type 0} (Sound : S → Type 0) (at : S → Map) (g : EntryStep) (f : Call → S → Out S) (h : ByEntry Sound at g f)
    (agrees : (c : Call) (s : S) → Sound s → g c (at s (session_of c)) ≡ machine_entry p c (at s (session_of c))) where
  step_same : (c : Call) (s : S) (m : Map) → Same Sound at s m → Alike (Same Sound at) (f c s) (step p c m)
  unfolding put
  step_same c s m q =
      let w = machine-by_entry p in
      let e : at s (session_of c) ≡ m (session_of c) = q.entries (session_of c) in
      let a : g c (at s (session_of c)) ≡ machine_entry p c (m (session_of c)) = agrees c s q.sound ∙ ap (machine_entry p c) e in
      record {
        reply = h.reply c s q.sound ∙ rw a (sym (w.reply c m tt));
        state = record {
          sound = h.sound c s q.sound;
          entries = λ k. h.entries c s q.sound k ∙ rw (a, q.entries k) (sym (w.entries c m tt k));
        };
      }

  pub run-same : (calls : List Call) (s : S) (m : Map) → Same Sound at s m → RanAlike (Same Sound at) (run f calls s) (run (step p) calls m)
  run-same = run-alike f (step p) (Same Sound at) step_same
