-- The chunks of a report in order are the report: whatever the size of the buffer, what was sent and what is left make
-- the whole, and nothing is left once a chunk is empty.
use Prim.Native.Nat.{ℕ, zero, suc, ◌≤◌, ◌<◌}
use mathlib.Core.Path.{◌≡◌, refl, sym, ap, ◌∙◌}
use mathlib.Core.List.{List, [], ◌∷◌, ◌++◌, append_assoc, append-nil}
use native.Mathlib.Omega.{arith}
use lib.ListN.{length, take, length-drop, take-append-drop}
use lib.Seq.{take-nil}
use Rattle.policy.specs.Read.{Outcome}
use Rattle.report.specs.Report.{report, chunk, behind, sent, unsent}

module _ (size : ℕ) where
  pub sent-unsent : (n : ℕ) (left : List ℕ) → sent size n left ++ unsent size n left ≡ left
  unfolding sent unsent
  sent-unsent zero left = refl
  sent-unsent (suc n) left =
      append_assoc (chunk size left) (sent size n (behind size left)) (unsent size n (behind size left))
      ∙ rw (sent-unsent n (behind size left)) (take-append-drop size left)

  module _ (h : 0 < size) where
    -- a chunk is empty only where nothing is left
    none_left : (left : List ℕ) → chunk size left ≡ [] → left ≡ []
    none_left [] e = refl
    none_left (b ∷ left) e =
        let z : length (take size (b ∷ left)) ≡ 0 = ap length e in
        absurd (some-taken size h z)
      where
        some-taken : (s : ℕ) → 0 < s → length (take s (b ∷ left)) ≡ 0 → ⊥
        some-taken zero i z = omega arith
        some-taken (suc s) i z = omega arith

    few-left : (n : ℕ) (left : List ℕ) → length left ≤ n → unsent size n left ≡ []
    unfolding unsent
    few-left zero [] i = refl
    few-left zero (b ∷ left) i = absurd (omega arith)
    few-left (suc n) left i = few-left n (behind size left) (omega (arith, length-drop size left))

    module _ (o : Outcome) where
      -- the chunks before an empty one are the report
      pub report-sent : (n : ℕ) → chunk size (unsent size n (report o)) ≡ [] → sent size n (report o) ≡ report o
      report-sent n e =
          let z : unsent size n (report o) ≡ [] = none_left (unsent size n (report o)) e in
          sym (append-nil (sent size n (report o))) ∙ ap (λ (l : List ℕ). sent size n (report o) ++ l) (sym z) ∙ sent-unsent n (report o)

      -- and there is an empty one
      pub report-ends : (n : ℕ) × (chunk size (unsent size n (report o)) ≡ [])
      report-ends =
          let n = length (report o) in
          let z : unsent size n (report o) ≡ [] = few-left n (report o) (omega arith) in
          (n, ap (chunk size) z ∙ take-nil size)
