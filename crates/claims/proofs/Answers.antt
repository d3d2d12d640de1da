-- A call that goes by the first broken check of a list gives its result where no condition holds, and else one refusal
-- whose condition holds and before which none does.
use Rattle.std.specs.Prelude.{Option, None, Some}
use Prim.Native.Nat.{ℕ}
use mathlib.Core.Path.{◌≡◌, refl}
use mathlib.Core.Bool.{Bool, true, false, cond, not, ◌&&◌}
use mathlib.Core.List.{List, [], ◌∷◌, ◌++◌, map}
use mathlib.Core.Logic.{◌⊎◌, inl, inr, ⊎_elim}
use native.Mathlib.Omega.{arith}
use Rattle.basis.specs.Choice.{given, Check, check, first_broken}
use Rattle.basis.specs.Lists.{all}
use Rattle.basis.proofs.Bools.{and_left, and_right}
use Rattle.claims.specs.Answers.{Unmet, Met, Answers}

pub unmet : (cs : List Check) → first_broken cs ≡ None → Unmet cs
unfolding first_broken all
unmet [] e = refl
unmet (c ∷ cs) e = go c.broken (unmet cs) e
  where
    go : (b : Bool) → (first_broken cs ≡ None → Unmet cs) → cond b (Some c.number) (first_broken cs) ≡ None
        → (not b && all (λ c. not c.broken) cs) ≡ true
    go true h f = let z : ◌≡◌ {A = ℕ} 0 1 = cc in absurd (omega arith)
    go false h f = h f

-- a check in front of those among which one is met
later : (m n : ℕ) (cs : List Check) → Met cs n → Met (check m false ∷ cs) n
unfolding all
later m n cs w = record { before = check m false ∷ w.before; behind = w.behind; listed = rw w.listed; earlier = w.earlier }

pub met : (cs : List Check) (n : ℕ) → first_broken cs ≡ Some n → Met cs n
unfolding first_broken all
met [] n e = let z : ◌≡◌ {A = ℕ} 0 1 = cc in absurd (omega arith)
met (c ∷ cs) n e = go c.number c.broken (met cs n) e
  where
    go : (m : ℕ) (b : Bool) → (first_broken cs ≡ Some n → Met cs n) → cond b (Some m) (first_broken cs) ≡ Some n → Met (check m b ∷ cs) n
    go m true h f = let q : m ≡ n = cc in record { before = []; behind = cs; listed = rw q; earlier = refl }
    go m false h f = later m n cs (h f)

-- what holds of every check of a list holds of the one that is met
pub met_all : (f : Check → Bool) (cs : List Check) (n : ℕ) → all f cs ≡ true → Met cs n → f (check n true) ≡ true
unfolding all
met_all f cs n e w = go w.before (rw w.listed at e)
  where
    go : (xs : List Check) → all f (xs ++ (check n true ∷ w.behind)) ≡ true → f (check n true) ≡ true
    go [] h = and_left _ _ h
    go (x ∷ xs) h = go xs (and_right (f x) _ h)

pub answers : {Result : Type 0} {Refusal : ℕ → Type 0} (ns : List ℕ) (cs : List Check) → map (λ c. c.number) cs ≡ ns
    → (first_broken cs ≡ None → Result) → ((n : ℕ) → first_broken cs ≡ Some n → Refusal n) → Answers ns cs Result Refusal
answers {Result = R} {Refusal = F} ns cs q f g = record { refusals = q; answer = go (first_broken cs) refl }
  where
    go : (o : Option ℕ) → first_broken cs ≡ o → (Unmet cs × R) ⊎ ((n : ℕ) × Met cs n × F n)
    go None e = inl (unmet cs e, f e)
    go (Some n) e = inr (n, met cs n e, g n e)

-- a choice by an option that is known
pub none-given : {B : Type 0} (o : Option ℕ) (x : B) (f : ℕ → B) → o ≡ None → given o x f ≡ x
none-given o x f e = rw e

pub some-given : {B : Type 0} (o : Option ℕ) (x : B) (f : ℕ → B) (n : ℕ) → o ≡ Some n → given o x f ≡ f n
some-given o x f n e = rw e

-- what follows from the result and from a refusal
pub through : {R S : Type 0} {F G : ℕ → Type 0} {ns : List ℕ} {cs : List Check} → (R → S) → ((n : ℕ) → F n → G n) → Answers ns cs R F
    → Answers ns cs S G
through f g w = record { refusals = w.refusals; answer = ⊎_elim (λ x. inl (x.0, f x.1)) (λ x. inr (x.0, x.1, g x.0 x.2)) w.answer }
