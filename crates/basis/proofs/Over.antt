-- A buffer with a result at its start: each place of the result, the length, and one number more.
use Prim.Native.Nat.{ℕ, suc, ◌≤◌, ◌<◌}
use mathlib.Core.Path.{◌≡◌, sym, ◌∙◌}
use mathlib.Core.List.{List, [], ◌∷◌, ◌++◌}
use native.Mathlib.Omega.{arith}
use native.Mathlib.Numerals.{add-one}
use lib.ListN.{length, get_or, drop, set, length-append, length-drop, get_or-append}
use lib.Seq.{drop-cons, set-append_seam, append_snoc}
use Rattle.basis.specs.Lists.{over}

pub over-at : (result buffer : List ℕ) (i : ℕ) → i < length result → get_or (over result buffer) i 0 ≡ get_or result i 0
unfolding over
over-at result buffer i h = get_or-append result (drop (length result) buffer) 0 i h

pub over-long : (result buffer : List ℕ) → length result ≤ length (over result buffer)
unfolding over
over-long result buffer = omega (arith, length-append result (drop (length result) buffer))

module _ (result buffer : List ℕ) where
  pub length_over : length result ≤ length buffer → length (over result buffer) ≡ length buffer
  unfolding over
  length_over h = length-append result (drop (length result) buffer) ∙ omega (arith, length-drop (length result) buffer)

  -- one number more is a store at the first place behind the result
  pub over-more : (x : ℕ) → length result < length buffer → over (result ++ (x ∷ [])) buffer ≡ set (over result buffer) (length result) x
  unfolding over
  over-more x h =
      rw (length-append result (x ∷ []), add-one (length result), append_snoc result x (drop (suc (length result)) buffer), drop-cons buffer (length result) 0 h)
      (sym (set-append_seam result (get_or buffer (length result) 0) (drop (suc (length result)) buffer) x))
