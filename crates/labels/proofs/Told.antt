-- Apart, answer by answer: which tests of 11 and 19 come out how, and what two rows tell.
use Rattle.std.specs.Prelude.{None, Some}
use Prim.Native.Nat.{ℕ, ◌≤◌, ◌<◌}
use mathlib.Core.Path.{◌≡◌, sym, ◌∙◌}
use mathlib.Core.Bool.{true, false}
use mathlib.Core.List.{List}
use native.Mathlib.Omega.{arith}
use lib.Dec.{leb}
use lib.ListN.{get_or}
use borrow.Author.Tests.{le-leb, lt-leb}
use Rattle.basis.specs.Choice.{first_broken}
use Rattle.basis.proofs.Bools.{or_right}
use Rattle.policy.specs.Policy.{Policy, sets}
use Rattle.policy.specs.Value.{policy_of}
use Rattle.policy.specs.Valid.{valid}
use Rattle.policy.specs.declared.value.PolicyValue.{PolicyValue}
use Rattle.formula.specs.Truth.{at}
use Rattle.labels.specs.Rows.{first_unlike}
use Rattle.labels.specs.Compile.{entry_of, like_users}
use Rattle.labels.specs.Apart.{Separates, apart_refusal}
use Rattle.labels.specs.Inner.Rows.{entry_at, first_action}
use Rattle.labels.proofs.Alike.{unlike-before, unlike-at, unlike-below}
use Rattle.labels.proofs.Entries.{entries-alike, entries-separate}

-- ---- refusals

module _ (v : PolicyValue) (u w : ℕ) where
  pub refused-value : valid v ≡ false → apart_refusal v u w ≡ Some 11
  unfolding first_broken
  refused-value e = rw e

  module _ (e : valid v ≡ true) where
    pub refused-first : sets (policy_of v).user ≤ u → apart_refusal v u w ≡ Some 19
    unfolding first_broken
    refused-first h = rw (e, le-leb (sets (policy_of v).user) u h)

    pub refused-second : sets (policy_of v).user ≤ w → apart_refusal v u w ≡ Some 19
    unfolding first_broken
    refused-second h =
        rw (e, or_right (leb (sets (policy_of v).user) u) (leb (sets (policy_of v).user) w) (le-leb (sets (policy_of v).user) w h))

    pub not-refused : u < sets (policy_of v).user → w < sets (policy_of v).user → apart_refusal v u w ≡ None
    unfolding first_broken
    not-refused a b = rw (e, lt-leb (sets (policy_of v).user) u a, lt-leb (sets (policy_of v).user) w b)

-- ---- the rows of two user sets

module _ (p : Policy) (u w n : ℕ) (xs ys : List ℕ) (objects : n ≡ sets p.object)
    (first-row : (o : ℕ) → o < n → get_or xs o 0 ≡ entry_of p (at u o)) (second-row : (o : ℕ) → o < n → get_or ys o 0 ≡ entry_of p (at w o))
    (r : ℕ) (found : r ≡ first_unlike (entry_at xs) (entry_at ys) n) where
  pub rows-tell_alike : r ≡ n → like_users p u w ≡ true
  rows-tell_alike e =
      entries-alike p u w (λ o h.
      let l : o < n = rw objects h in
      sym (first-row o l) ∙ unlike-before (entry_at xs) (entry_at ys) n o (omega arith) ∙ second-row o l)

  pub rows-tell_apart : (a : ℕ) → a ≡ first_action (get_or xs r 0) (get_or ys r 0) → (r ≡ n → ⊥) → Separates p u w a r
  rows-tell_apart a q e =
      let l = unlike-below (entry_at xs) (entry_at ys) n r found e in
      let s = unlike-at (entry_at xs) (entry_at ys) n in
      rw (q, first-row r l, second-row r l)
      (entries-separate p u w r (rw (← objects) l) (λ z. s (rw (← found) l) (rw (← found) (first-row r l ∙ z ∙ sym (second-row r l)))))
