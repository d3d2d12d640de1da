-- Dominance: a comparison `dIJ` of an accepted text's policy is true exactly where each place held in J is held in I, or
-- has a senior in I that is held.
use Prim.Native.Nat.{ℕ, ◌+◌, ◌<◌}
use mathlib.Core.Path.{◌≡◌, refl}
use mathlib.Core.Bool.{Bool, true, false, false≢true}
use mathlib.Core.Logic.{◌↔◌, inl, inr, ⊎_elim}
use borrow.Author.Tests.{eqb-true, eq-eqb}
use lib.Dec.{eqb}
use Rattle.basis.specs.Numbers.{every, implies}
use Rattle.basis.proofs.Bools.{and_left, and_right, and_both}
use Rattle.basis.proofs.Numbers.{every-at, every_of}
use Rattle.seniority.proofs.Laws.{held_or_senior-iff}
use Rattle.words.specs.declared.Comparison.TheVariants.{Dominates}
use Rattle.policy.specs.Limits.{values}
use Rattle.policy.specs.Policy.{Side, Policy, total, width, start}
use Rattle.policy.proofs.Attributes.{senior-place}
use Rattle.policy.proofs.Bounds.{lines-ordered}
use Rattle.policy.proofs.Parts.{SideParts, Parts}
use Rattle.formula.specs.Truth.{Sets, place_held, place_covered, compares}
use Rattle.claims.specs.Demand2.{Covered, Covers}

implies-iff : (a b : Bool) → (implies a b ≡ true) ↔ (a ≡ true → b ≡ true)
implies-iff true b = (λ e h. e, λ f. f refl)
implies-iff false b = (λ e h. absurd (false≢true h), λ f. refl)

module _ (most : ℕ) (side : Side) (h : SideParts most side) (i set k : ℕ) (l : k < width side i) where
  covered_iff : (place_covered side i set k ≡ true) ↔ Covered side i set k
  covered_iff =
      let t = held_or_senior-iff (total side) side.lines (lines-ordered most side h) set (start side i + k) in (
        λ e. ⊎_elim inl
            (λ w. let m = senior-place most side h i k l w.0 w.2 in inr (m.0, m.1, rw m.2 at w.2, rw m.2 at w.1))
            (t.0 e),
        λ c. t.1 (⊎_elim inl (λ m. inr (start side i + m.0, m.3, m.2)) c),
      )

pub dominates : (p : Policy) → Parts p → (s : Sets) (i j : ℕ) → (compares p s (Dominates i j) ≡ true) ↔ Covers p s i j
dominates p h s i j =
    let u = width p.user i in let o = width p.object j in
    let due : ℕ → Bool = place_held p.object j s.object in
    let met : ℕ → Bool = place_covered p.user i s.user in
    let passes : ℕ → Bool = λ k. implies (due k) (met k) in (
      λ e.
          record {
            equally_wide = eqb-true u o (and_left (eqb u o) (every passes u) e);
            each-place = λ k l d.
                (covered_iff (values p.form) p.user h.user i s.user k l).0
                ((implies-iff (due k) (met k)).0 (every-at passes u (and_right (eqb u o) (every passes u) e) k l) d);
          },
      λ c.
          and_both (eqb u o) (every passes u) (eq-eqb u o c.equally_wide)
          (every_of passes u (λ k l.
          (implies-iff (due k) (met k)).1 (λ d. (covered_iff (values p.form) p.user h.user i s.user k l).1 (c.each-place k l d)))),
    )
