-- `words::WordFromU8::from` meets its contract, range by range.
use Prim.Native.Nat.{ℕ, ◌-◌, ◌/◌, ◌%◌, ◌≤◌}
use mathlib.Core.Path.{◌≡◌, sym, ap, ap₂, ◌∙◌}
use native.Mathlib.Omega.{arith}
use Rattle.words.specs.Word.{numbered}
use Rattle.words.specs.declared.Word.TheVariants.{Holds, Compares}
use Rattle.words.specs.declared.Holding.TheVariants.{User, Object}
use Rattle.words.specs.declared.Comparison.TheVariants.{Dominates, Equals}
use Rattle.words.proofs.Numbers.{of_letter, of_user, of_object, of_none, of_dominates, of_equals, of_past}
use Rattle.words.proofs.WordFromU8.from.Goals as goal

-- each range by its tens
module _ (n : ℕ) where
  user-tens : n / 10 ≡ 1 → Holds (User (n % 10)) ≡ numbered n
  user-tens h =
      let e : n % 10 ≡ n - 10 = omega arith in ap (λ (v : ℕ). Holds (User v)) e ∙ sym (of_user n (omega arith) (omega arith))

  object-tens : n / 10 ≡ 2 → Holds (Object (n % 10)) ≡ numbered n
  object-tens h =
      let e : n % 10 ≡ n - 20 = omega arith in ap (λ (v : ℕ). Holds (Object v)) e ∙ sym (of_object n (omega arith) (omega arith))

  dominates-tens : 5 ≤ n / 10 → n / 10 ≤ 14 → Compares (Dominates (n / 10 - 5) (n % 10)) ≡ numbered n
  dominates-tens g h =
      let e : n / 10 - 5 ≡ (n - 50) / 10 = omega arith in
      let f : n % 10 ≡ (n - 50) % 10 = omega arith in
      ap₂ (λ (i j : ℕ). Compares (Dominates i j)) e f ∙ sym (of_dominates n (omega arith) (omega arith))

  equals_tens : 15 ≤ n / 10 → n / 10 ≤ 24 → Compares (Equals (n / 10 - 15) (n % 10)) ≡ numbered n
  equals_tens g h =
      let e : n / 10 - 15 ≡ (n - 150) / 10 = omega arith in
      let f : n % 10 ≡ (n - 150) % 10 = omega arith in
      ap₂ (λ (i j : ℕ). Compares (Equals i j)) e f ∙ sym (of_equals n (omega arith) (omega arith))

pub returns-in-0 : goal.returns-in-0
returns-in-0 c = c.letter_of.ensures ∙ sym (of_letter _ (omega arith))

pub returns-in-1 : goal.returns-in-1
returns-in-1 c = user-tens _ (omega arith)

pub returns-in-2 : goal.returns-in-2
returns-in-2 c = object-tens _ (omega arith)

pub returns-in-5-to-14 : goal.returns-in-5-to-14
returns-in-5-to-14 c = dominates-tens _ (omega arith) (omega arith)

pub returns-in-15-to-24 : goal.returns-in-15-to-24
returns-in-15-to-24 c = equals_tens _ (omega arith) (omega arith)

pub returns-in-3-to-4 : goal.returns-in-3-to-4
returns-in-3-to-4 c = sym (of_none _ (omega arith) (omega arith))

pub returns-in_default : goal.returns-in_default
returns-in_default c = sym (of_past _ (omega arith))
