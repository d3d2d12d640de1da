-- `labels::rows::first_unlike` meets its contract: the first pair of two rows' entries that differ.
use Prim.Native.Nat.{ℕ, ◌≤◌, ◌<◌, zero-le}
use mathlib.Core.Path.{◌≡◌, sym, ap₂, ◌∙◌}
use mathlib.Core.List.{List}
use native.Mathlib.Nat.{le_refl}
use native.Mathlib.Omega.{arith}
use lib.ListN.{length, get_or, take}
use Rattle.std.proofs.Common.{Option, Some, None, rules, tests}
use Rattle.std.specs.Prelude.{MatchOption}
use Rattle.std.specs.Option.{unwrap_or}
use Rattle.std.specs.List.{zip, AllWithin, HoldsAt}
use Rattle.std.proofs.lemmas.Iterator.{YieldsList-from_slice, YieldsList-from_zip, IsFirst-from_position}
use Rattle.std.proofs.lemmas.List.{length-take-le, get_or-take}
use Rattle.std.proofs.lemmas.Slice.Zip.{get_or-zip, length-zip}
use Rattle.labels.specs.Rows.{first_unlike}
use Rattle.labels.specs.Inner.Rows.{entry_at}
use Rattle.labels.proofs.Alike.{unlike-is}
use Rattle.labels.proofs.rows.first_unlike.Goals as goal

-- the entries of two rows at their first n columns
abbrev pairs : List ℕ → List ℕ → ℕ → List (ℕ × ℕ)
pairs xs ys n = zip (take n xs) (take n ys)

abbrev Like : ℕ × ℕ → Type 0
Like z = z.0 ≡ z.1

abbrev Unlike : ℕ × ℕ → Type 0
Unlike z = z.0 ≡ z.1 → ⊥

module _ (xs ys : List ℕ) (n : ℕ) (a : n ≤ length xs) (b : n ≤ length ys) where
  size : length (pairs xs ys n) ≡ n
  size = omega (arith, length-zip (take n xs) (take n ys), length-take-le n xs a, length-take-le n ys b)

  pair : (o : ℕ) → o < n → get_or (pairs xs ys n) o (0, 0) ≡ (get_or xs o 0, get_or ys o 0)
  pair o h =
      get_or-zip (take n xs) (take n ys) o (0, 0) (omega (arith, length-take-le n xs a)) (omega (arith, length-take-le n ys b))
      ∙ ap₂ (λ (x y : ℕ). (x, y)) (get_or-take n xs o 0 h) (get_or-take n ys o 0 h)

  -- what `position` tells of them
  told : (r : Option ℕ)
      → MatchOption r (AllWithin Like (pairs xs ys n) 0 (length (pairs xs ys n)))
      (λ i. (i < length (pairs xs ys n)) × HoldsAt Unlike (pairs xs ys n) i × AllWithin Like (pairs xs ys n) 0 i)
      → unwrap_or r n ≡ first_unlike (entry_at xs) (entry_at ys) n
  told None h =
      sym (unlike-is _ _ n n (le_refl n) (λ o l. rw (pair o l) at (h o (0, 0) zero-le (omega (arith, size)))) (λ l. absurd (omega arith)))
  told (Some i) h =
      sym (unlike-is _ _ n i (omega (arith, h.0, size)) (λ o l. rw (pair o (omega (arith, h.0, size))) at (h.2 o (0, 0) zero-le l)) (λ l. rw (pair i l) at (h.1 (0, 0))))

pub returns : goal.returns
returns c =
    let a = c.args in
    let y = YieldsList-from_zip {s = c.zip.result} (YieldsList-from_slice (take a.n a.row.now) (rw c.zip.ensures.first c.iter.ensures.rest)) (YieldsList-from_slice (take a.n a.other.now) (search rules)) in
    c.unwrap_or.ensures
    ∙ told a.row.now a.other.now a.n (omega arith) (omega arith) c.position.result
    (IsFirst-from_position c.position.new.self _ c.position.result Unlike Like c.position.ensures.ran y (λ x q k. search (rules, tests)) (λ x q k. search (rules, tests)))
