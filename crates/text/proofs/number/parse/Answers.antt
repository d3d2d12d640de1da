-- `text::number::parse` meets its contract: each test that the code makes settles one of `is_number`.
use Rattle.std.specs.Prelude.{Option, Some, None}
use Prim.Native.Nat.{ℕ, ◌≤◌, ◌<◌}
use mathlib.Core.Path.{◌≡◌, sym, ◌∙◌}
use mathlib.Core.Bool.{cond, and-true, and-false, false≢true}
use mathlib.Core.List.{List}
use native.Mathlib.Omega.{arith}
use borrow.Author.Tests.{le-leb, lt-leb, eq-eqb, eqb-true, ne_eqb}
use lib.ListN.{length, get_or}
use Rattle.basis.specs.Bytes.{byte}
use Rattle.basis.specs.Lists.{all}
use Rattle.text.specs.Number.{is_digit, value_of, is_number, numeral, most_digits}
use Rattle.std.proofs.Common.{rules, tests}
use Rattle.std.proofs.lemmas.Bool.{ltb-true}
use Rattle.text.proofs.number.parse.Goals.{then-is_empty-via-then-is_empty, then-is_empty-via-else-is_empty+then-f-gt-MOST_DIGITS, then-is_empty-via-else-is_empty+else-f-gt-MOST_DIGITS+then-needless_zero, then-f-gt1, else-f-gt1}
use Rattle.text.proofs.number.parse.Goals as goal

module _ (f : List ℕ) where
  none : length f ≡ 0 → None ≡ numeral f
  unfolding numeral is_number
  none h = rw h

  many : most_digits < length f → None ≡ numeral f
  unfolding numeral is_number
  many h = rw (lt-leb (length f) most_digits h, and-false)

  -- of a fitting length: what the digits say, and none of several may lead with 0
  module _ (l : length f ≡ 0 → ⊥) (m : length f ≤ most_digits) where
    zeros : (length f ≡ 1 → ⊥) → get_or f 0 0 ≡ byte "0" → None ≡ numeral f
    unfolding numeral is_number
    zeros h e = rw (ne_eqb (length f) 1 h, eq-eqb (get_or f 0 0) (byte "0") e) (simp and-false)

    module _ (r : Option ℕ) (is : r ≡ cond (all is_digit f) (Some (value_of f)) None) where
      one : length f ≡ 1 → r ≡ numeral f
      unfolding numeral is_number
      one h = is ∙ rw h (simp and-true)

      several : (length f ≡ 1 → ⊥) → (get_or f 0 0 ≡ byte "0" → ⊥) → r ≡ numeral f
      unfolding numeral is_number
      several h e =
          let g : 1 ≤ length f = omega (arith, l) in
          is
          ∙ rw (le-leb 1 (length f) g, le-leb (length f) most_digits m, ne_eqb (length f) 1 h, ne_eqb (get_or f 0 0) (byte "0") e)
          (simp and-true)

pub returns-then-is_empty : goal.returns-then-is_empty
returns-then-is_empty c =
    elim c.then-is_empty.branch [
      | then-is_empty-via-then-is_empty w ↦ none _ (search (rules, tests))
      | then-is_empty-via-else-is_empty+then-f-gt-MOST_DIGITS w ↦ search many
      | then-is_empty-via-else-is_empty+else-f-gt-MOST_DIGITS+then-needless_zero w ↦
          elim c.if-f-gt1.branch [
            | then-f-gt1 v ↦
                zeros
                _
                (λ q. omega (arith, q, v.if-f-gt1.true))
                w.if-f-gt-MOST_DIGITS.false
                (λ q. omega (arith, q, v.if-f-gt1.true))
                (eqb-true _ _ (sym v.needless_zero-is ∙ w.if-needless_zero.true))
            | else-f-gt1 v ↦ absurd (omega (arith, v.if-f-gt1.false, ltb-true _ _ (sym v.needless_zero-is ∙ w.if-needless_zero.true)))
          ]
    ]

pub returns : goal.returns
returns c =
    let filled : length c.args.f.now ≡ 0 → ⊥ = λ q. false≢true (sym c.if-is_empty.false ∙ c.is_empty.ensures ∙ eq-eqb _ _ q) in
    let m = c.if-f-gt-MOST_DIGITS.false in
    elim c.if-f-gt1.branch [
      | then-f-gt1 w ↦
          several
          _
          filled
          m
          _
          c.digits.ensures
          (λ q. omega (arith, q, w.if-f-gt1.true))
          (λ q. false≢true (sym c.if-needless_zero.false ∙ w.needless_zero-is ∙ eq-eqb _ _ q))
      | else-f-gt1 w ↦ one _ filled m _ c.digits.ensures (omega (arith, filled, w.if-f-gt1.false))
    ]
