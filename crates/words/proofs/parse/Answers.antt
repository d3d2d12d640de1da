-- `words::parse` meets its contract: the length picks the shape.
use Rattle.std.specs.Prelude.{None}
use Prim.Native.Nat.{ℕ}
use mathlib.Core.Path.{◌≡◌, refl, sym, ◌∙◌}
use mathlib.Core.List.{List, [], ◌∷◌}
use native.Mathlib.Omega.{arith}
use lib.ListN.{length, get_or}
use Rattle.words.specs.Word.{letter, holding, comparison, parsed}
use Rattle.words.proofs.parse.Goals as goal

one : (f : List ℕ) → length f ≡ 1 → parsed f ≡ letter (get_or f 0 0)
unfolding parsed
one [] h = absurd (omega arith)
one (a ∷ []) h = refl
one (a ∷ b ∷ f) h = absurd (omega arith)

two : (f : List ℕ) → length f ≡ 2 → parsed f ≡ holding (get_or f 0 0) (get_or f 1 0)
unfolding parsed
two [] h = absurd (omega arith)
two (a ∷ []) h = absurd (omega arith)
two (a ∷ b ∷ []) h = refl
two (a ∷ b ∷ c ∷ f) h = absurd (omega arith)

three : (f : List ℕ) → length f ≡ 3 → parsed f ≡ comparison (get_or f 0 0) (get_or f 1 0) (get_or f 2 0)
unfolding parsed
three [] h = absurd (omega arith)
three (a ∷ []) h = absurd (omega arith)
three (a ∷ b ∷ []) h = absurd (omega arith)
three (a ∷ b ∷ c ∷ []) h = refl
three (a ∷ b ∷ c ∷ d ∷ f) h = absurd (omega arith)

other : (f : List ℕ) → (length f ≡ 1 → ⊥) → (length f ≡ 2 → ⊥) → (length f ≡ 3 → ⊥) → parsed f ≡ None
unfolding parsed
other [] h g e = refl
other (a ∷ []) h g e = absurd (h refl)
other (a ∷ b ∷ []) h g e = absurd (g refl)
other (a ∷ b ∷ c ∷ []) h g e = absurd (e refl)
other (a ∷ b ∷ c ∷ d ∷ f) h g e = refl

pub returns-in-len1 : goal.returns-in-len1
returns-in-len1 c = c.parse_letter.ensures ∙ sym (one _ (omega arith))

pub returns-in-len2 : goal.returns-in-len2
returns-in-len2 c = c.parse_holding.ensures ∙ sym (two _ (omega arith))

pub returns-in-len3 : goal.returns-in-len3
returns-in-len3 c = c.parse_comparison.ensures ∙ sym (three _ (omega arith))

pub returns-in_default : goal.returns-in_default
returns-in_default c = sym (other _ (omega arith) (omega arith) (omega arith))

pub returns-in_default-2 : goal.returns-in_default-2
returns-in_default-2 c = sym (other _ (omega arith) (omega arith) (omega arith))
