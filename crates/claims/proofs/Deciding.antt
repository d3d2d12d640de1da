-- Deciding by the policy and deciding by a listing, for the value of an accepted text and sets of its sides: neither is
-- refused, the one says what the formula and the pairs say, and the other whether the pair of sets stands in the
-- listing.
use Rattle.std.specs.Prelude.{Option, None, Some}
use Prim.Native.Nat.{ℕ, zero, suc, ◌/◌, ◌%◌, ◌≤◌, ◌<◌}
use mathlib.Core.Path.{◌≡◌, refl, sym, ap, ap₂, ◌∙◌}
use mathlib.Core.Bool.{Bool, true, false, false≢true, ◌&&◌, ◌||◌}
use mathlib.Core.List.{List, [], ◌∷◌}
use mathlib.Core.Logic.Iff
use mathlib.Core.Logic.{◌↔◌, ◌⊎◌, inl, inr, ⊎_elim}
use native.Mathlib.Omega.{arith}
use borrow.Author.Tests.{eqb-true, eq-eqb, le-ltb, lt-leb}
use lib.Arith.{digits_div, digits_mod}
use lib.Dec.{eqb}
use lib.ListN.{length, get_or, take}
use Rattle.basis.specs.Choice.{given, first_broken}
use Rattle.basis.specs.Lists.{any}
use Rattle.basis.proofs.Bools.{and_left, and_right, or_cases, or_left, or_right}
use Rattle.basis.proofs.Lists.{any_at, any_of}
use Rattle.basis.proofs.Places.{taken_in}
use Rattle.words.specs.declared.Word.{Word}
use Rattle.policy.specs.Limits.{actions, tuple_bits}
use Rattle.policy.specs.Policy.{Policy, sets, formula_in}
use Rattle.policy.specs.Read.{Accepted, read_text}
use Rattle.policy.specs.Value.{value_of}
use Rattle.policy.specs.Answers.{granted, denied, decided}
use Rattle.policy.proofs.Valid.{yielded_policy, yielded_valid}
use Rattle.words.specs.declared.Holding.TheVariants.{User}
use Rattle.formula.specs.Truth.{Sets, at, holds, truth, formula_true, pair_holds, pair_true, grants}
use Rattle.formula.specs.Decide.{decide}
use Rattle.tuples.specs.Tuples.{stored, decide_by_tuples}
use Rattle.claims.specs.Demand2.{OfSides, FormulaTrue, PairTrue, Decides, Among, EqualSets}

granted-iff : (b : Bool) → (decided b ≡ granted) ↔ (b ≡ true)
granted-iff true = (λ e. refl, λ e. refl)
granted-iff false = (λ e. let z : ◌≡◌ {A = ℕ} 0 1 = cc in absurd (omega arith), λ e. absurd (false≢true e))

either : (b : Bool) → (decided b ≡ granted) ⊎ (decided b ≡ denied)
either true = inl refl
either false = inr refl

-- ---- the formula of an action

module _ (p : Policy) (a : ℕ) (s : Sets) where
  in_formula : (o : Option (List Word)) → formula_in p.rules a ≡ o → (given o false (truth p s) ≡ true) ↔ FormulaTrue p a s
  in_formula None q = (
    (λ e. absurd (false≢true e)),
    (λ w. let f = sym q ∙ w.formula in let z : ◌≡◌ {A = ℕ} 0 1 = cc in absurd (omega arith)),
  )
  in_formula (Some ws) q = (
    (λ e. record { words = ws; formula = q; holds = e }),
    (λ w. let f : Some ws ≡ Some w.words = sym q ∙ w.formula in let g : ws ≡ w.words = cc in rw g w.holds),
  )

  formula-iff : (formula_true p a s ≡ true) ↔ FormulaTrue p a s
  unfolding formula_true
  formula-iff = in_formula (formula_in p.rules a) refl

  -- its pairs

  pair_found : pair_true p a s ≡ true → PairTrue p a s
  unfolding pair_true
  pair_found e =
      let w = any_at (λ x. eqb x.action a && pair_holds p s x) p.pairs e in let x = w.0 in
      let h = and_right (eqb x.action a) (pair_holds p s x) w.2 in
      record { pair = x; line = w.1; action = eqb-true x.action a (and_left _ _ w.2); user = and_left _ _ h; object = and_right (holds p s (User x.user)) _ h }

  pair-holds : PairTrue p a s → pair_true p a s ≡ true
  unfolding pair_true
  pair-holds w =
      any_of (λ x. eqb x.action a && pair_holds p s x) p.pairs w.pair w.line
      (rw (eq-eqb w.pair.action a w.action, w.user, w.object))

  -- either

  either-iff : (grants p a s ≡ true) ↔ (FormulaTrue p a s ⊎ PairTrue p a s)
  unfolding grants
  either-iff = (
    (λ e. ⊎_elim (λ h. inl (formula-iff.0 h)) (λ h. inr (pair_found h)) (or_cases (formula_true p a s) (pair_true p a s) e)),
    (λ w. ⊎_elim (λ h. or_left (formula_true p a s) (pair_true p a s) (formula-iff.1 h)) (λ h. or_right (formula_true p a s) (pair_true p a s) (pair-holds h)) w),
  )

-- ---- a number among the first entries of a listing

next : (y : ℕ) (listing : List ℕ) (n x : ℕ) → Among listing n x → Among (y ∷ listing) (suc n) x
next y listing n x w = record { place = suc w.place; counted = omega (arith, w.counted); equal = w.equal }

among : (listing : List ℕ) (n x : ℕ) → n ≤ length listing → any (eqb x) (take n listing) ≡ true → Among listing n x
unfolding any
among listing zero x h e = absurd (false≢true e)
among [] (suc n) x h e = absurd (omega arith)
among (y ∷ listing) (suc n) x h e = go (eqb x y) refl (among listing n x (omega arith)) e
  where
    go : (b : Bool) → eqb x y ≡ b → (any (eqb x) (take n listing) ≡ true → Among listing n x)
        → (b || any (eqb x) (take n listing)) ≡ true → Among (y ∷ listing) (suc n) x
    go true q ih f = record { place = 0; counted = omega arith; equal = sym (eqb-true x y q) }
    go false q ih f = next y listing n x (ih f)

among-iff : (listing : List ℕ) (n x : ℕ) → n ≤ length listing → (any (eqb x) (take n listing) ≡ true) ↔ Among listing n x
among-iff listing n x h = (
  among listing n x h,
  (λ w.
      any_of (eqb x) (take n listing) (get_or listing w.place 0) (taken_in 0 listing n w.place w.counted h)
      (eq-eqb x (get_or listing w.place 0) (sym w.equal))),
)

-- ---- an accepted text

module _ (t : List ℕ) (p : Policy) (e : read_text t ≡ Accepted p) where
  pub by_policy : (a : ℕ) → a < actions p.form → (s : Sets) → s.user < sets p.user → s.object < sets p.object
      → decide (value_of p) a s ≡ decided (grants p a s)
  unfolding decide first_broken
  by_policy a ha s hu ho =
      rw (yielded_policy t p e, yielded_valid t p e, lt-leb (actions p.form) a ha, lt-leb (sets p.user) s.user hu, lt-leb (sets p.object) s.object ho)

  pub decides : (a : ℕ) (s : Sets) → a < actions p.form → OfSides p s → Decides p a s
  decides a s ha h =
      record {
        by_either = rw (by_policy a ha s h.0 h.1) (Iff.trans (granted-iff (grants p a s)) (either-iff p a s));
        else_denied = rw (by_policy a ha s h.0 h.1) (either (grants p a s));
      }

  by_listing : (s : Sets) → OfSides p s → (listing : List ℕ) (n : ℕ) → n ≤ length listing
      → decide_by_tuples (value_of p) (tuple_bits p.form) s listing n ≡ decided (any (eqb (stored p s)) (take n listing))
  unfolding decide_by_tuples first_broken value_of
  by_listing s h listing n l =
      rw (yielded_policy t p e, yielded_valid t p e, eq-eqb (tuple_bits p.form) (tuple_bits p.form) refl, lt-leb (sets p.user) s.user h.0, lt-leb (sets p.object) s.object h.1, le-ltb (length listing) n l)

  pub equal-sets : (s : Sets) → OfSides p s → EqualSets p s
  equal-sets s h =
      record {
        by_tuples = λ listing n l.
            rw (by_listing s h listing n l)
            (Iff.trans (granted-iff (any (eqb (stored p s)) (take n listing))) (among-iff listing n (stored p s) l));
        once = λ r k q.
            ap₂ at
            (sym (digits_div s.user h.1) ∙ ap (λ (x : ℕ). x / sets p.object) q ∙ digits_div r.user k.1)
            (sym (digits_mod s.user h.1) ∙ ap (λ (x : ℕ). x % sets p.object) q ∙ digits_mod r.user k.1);
      }
