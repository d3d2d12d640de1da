-- The calls naming one session are answered by its entry alone, since each call looks at one session's entry and
-- changes no other.
use Prim.Native.Nat.{ℕ}
use mathlib.Core.Path.{◌≡◌, refl, sym, ap, ap₂, ◌∙◌}
use mathlib.Core.Bool.{Bool, true, false, cond}
use mathlib.Core.List.{List, [], ◌∷◌, map}
use borrow.Author.Tests.{eqb-true}
use Rattle.policy.specs.Value.{value_of, policy_of}
use Rattle.policy.specs.Answers.{Reply}
use Rattle.board.specs.Machine.{Map, put, Call, session_of, Out, run}
use Rattle.board.specs.Board.{board_step, entry_at, fresh}
use Rattle.board.proofs.OneEntry.{EntryStep, ByEntry}
use Rattle.board.proofs.Kept.{Sound, sound-fresh, board_entry, board-by_entry}
use Rattle.claims.specs.Isolation.{names, calls_where, answers_where, Isolated, Claim, TextClaim}
use Rattle.claims.proofs.Demand3.{demand3}

-- ---- a part of the calls

-- where what is `at` a state decides the answers to the calls that pass a test, and no other call changes it, these are
-- answered as by what is there alone
module _ {S A : Type 0} (f : Call → S → Out S) (g : Call → A → Out A) (Sound : S → Type 0) (at : S → A) (mine : Call → Bool)
    (sound : (c : Call) (s : S) → Sound s → Sound (f c s).state)
    (reply : (c : Call) (s : S) → Sound s → mine c ≡ true → (f c s).reply ≡ (g c (at s)).reply)
    (changed : (c : Call) (s : S) → Sound s → mine c ≡ true → at (f c s).state ≡ (g c (at s)).state)
    (kept : (c : Call) (s : S) → Sound s → mine c ≡ false → at (f c s).state ≡ at s) where
  run-part : (cs : List Call) (s : S) → Sound s → answers_where mine cs (run f cs s).replies ≡ (run g (calls_where mine cs) (at s)).replies
  unfolding run calls_where answers_where
  run-part [] s h = refl
  run-part (c ∷ cs) s h = go (mine c) refl (run-part cs (f c s).state (sound c s h))
    where
      go : (t : Bool) → mine c ≡ t → answers_where mine cs (run f cs (f c s).state).replies ≡ (run g (calls_where mine cs) (at (f c s).state)).replies
          → cond t ((f c s).reply ∷ answers_where mine cs (run f cs (f c s).state).replies) (answers_where mine cs (run f cs (f c s).state).replies)
          ≡ (run g (cond t (c ∷ calls_where mine cs) (calls_where mine cs)) (at s)).replies
      go true q i = ap₂ (λ (x : Reply) (xs : List Reply). x ∷ xs) (reply c s h q) (rw (← changed c s h q) i)
      go false q i = rw (← kept c s h q) i

-- all calls of a part pass its test
calls-again : (f : Call → Bool) (cs : List Call) → calls_where f (calls_where f cs) ≡ calls_where f cs
unfolding calls_where
calls-again f [] = refl
calls-again f (c ∷ cs) = go (f c) refl (calls-again f cs)
  where
    go : (t : Bool) → f c ≡ t → calls_where f (calls_where f cs) ≡ calls_where f cs
        → calls_where f (cond t (c ∷ calls_where f cs) (calls_where f cs)) ≡ cond t (c ∷ calls_where f cs) (calls_where f cs)
    go true q i = rw q (ap (λ (ds : List Call). c ∷ ds) i)
    go false q i = i

answers-all : {S : Type 0} (f : Call → Bool) (g : Call → S → Out S) (cs : List Call) (s : S)
    → answers_where f (calls_where f cs) (run g (calls_where f cs) s).replies ≡ (run g (calls_where f cs) s).replies
unfolding calls_where answers_where run
answers-all f g [] s = refl
answers-all {S = S} f g (c ∷ cs) s = go (f c) refl (answers-all f g cs)
  where
    go : (t : Bool) → f c ≡ t
        → ((u : S) → answers_where f (calls_where f cs) (run g (calls_where f cs) u).replies ≡ (run g (calls_where f cs) u).replies)
        → answers_where f (cond t (c ∷ calls_where f cs) (calls_where f cs)) (run g (cond t (c ∷ calls_where f cs) (calls_where f cs)) s).replies
        ≡ (run g (cond t (c ∷ calls_where f cs) (calls_where f cs)) s).replies
    go true q i = rw q (ap (λ (rs : List Reply). (g c s).reply ∷ rs) (i (g c s).state))
    go false q i = i s

-- answers in other words are those to the same calls
answers-map : {A B : Type 0} (h : A → B) (f : Call → Bool) (cs : List Call) (xs : List A) → answers_where f cs (map h xs) ≡ map h (answers_where f cs xs)
unfolding answers_where
answers-map h f [] xs = refl
answers-map h f (c ∷ cs) [] = refl
answers-map h f (c ∷ cs) (x ∷ xs) = go (f c) (answers-map h f cs xs)
  where
    go : (t : Bool) → answers_where f cs (map h xs) ≡ map h (answers_where f cs xs)
        → cond t (h x ∷ answers_where f cs (map h xs)) (answers_where f cs (map h xs)) ≡ map h (cond t (x ∷ answers_where f cs xs) (answers_where f cs xs))
    go true i = ap (λ ys. h x ∷ ys) i
    go false i = i

module _ {A B : Type 0} (h : A → B) (f : List Call → List A) (g : List Call → List B) (e : (cs : List Call) → g cs ≡ map h (f cs)) (s : ℕ) where
  told : (cs : List Call) → answers_where (names s) cs (g cs) ≡ map h (answers_where (names s) cs (f cs))
  told cs = ap (answers_where (names s) cs) (e cs) ∙ answers-map h (names s) cs (f cs)

  pub isolated-map : (cs : List Call) → Isolated f s cs → Isolated g s cs
  isolated-map cs i =
      record {
        same = λ ds q. told cs ∙ ap (map h) (i.same ds q) ∙ sym (told ds);
        alone = told cs ∙ ap (map h) i.alone ∙ sym (e (calls_where (names s) cs));
      }

-- ---- one session

module _ {S : Type 0} (Sound : S → Type 0) (at : S → Map) (g : EntryStep) (f : Call → S → Out S) (h : ByEntry Sound at g f)
    (s : S) (ok : Sound s) (k : ℕ) where
  by_its_entry : (cs : List Call) → answers_where (names k) cs (run f cs s).replies ≡ (run g (calls_where (names k) cs) (at s k)).replies
  unfolding put
  by_its_entry cs =
      run-part f g Sound (λ t. at t k) (names k) h.sound
      (λ c t i q. rw (eqb-true k (session_of c) q) (h.reply c t i))
      (λ c t i q. h.entries c t i k ∙ rw (q, eqb-true k (session_of c) q))
      (λ c t i q. h.entries c t i k ∙ rw q)
      cs s ok

  same-answers : (cs ds : List Call) → calls_where (names k) cs ≡ calls_where (names k) ds
      → answers_where (names k) cs (run f cs s).replies ≡ answers_where (names k) ds (run f ds s).replies
  same-answers cs ds e = by_its_entry cs ∙ rw e (sym (by_its_entry ds))

  isolated : (cs : List Call) → Isolated (λ ds. (run f ds s).replies) k cs
  isolated cs =
      record {
        same = same-answers cs;
        alone = same-answers cs (calls_where (names k) cs) (sym (calls-again (names k) cs)) ∙ answers-all (names k) f cs s;
      }

pub isolation : Claim
isolation v l s calls = isolated (Sound (policy_of v)) entry_at (board_entry v l) (board_step v l) (board-by_entry v l) fresh (sound-fresh (policy_of v)) s calls

pub text-isolation : TextClaim
text-isolation t p e b room s calls =
    let i = isolation (value_of p) _ s calls in
    record { isolated = i; machine-alone = i.alone ∙ ((demand3 t p e).sessions b room (calls_where (names s) calls)).answers }
