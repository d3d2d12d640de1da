-- Laws of `split` and `index_of`: one byte more, and parts by the positions that `find` tells.
use Prim.Native.Nat.{ℕ, suc, ◌+◌, ◌-◌, ◌≤◌, ◌<◌}
use mathlib.Core.Path.{◌≡◌, refl, sym, ap, ◌∙◌}
use mathlib.Core.Bool.{Bool, true, false, cond, not}
use mathlib.Core.List.{List, [], ◌∷◌}
use native.Mathlib.Nat.{le_of_suc-le-suc, zero-lt-suc, not-suc-le-zero}
use native.Mathlib.Omega.{arith}
use native.Mathlib.Decide.{dec_lt}
use lib.Dec.{eqb}
use lib.ListN.{length, get_or, take, drop, length-drop}
use lib.Seq.{drop-drop, take_all}
use Rattle.std.specs.List.{position_or_len, count_by}
use Rattle.std.proofs.lemmas.List.Sums.{sum_by-cons}
use Rattle.text.specs.Parts.{split, onto}
use Rattle.text.specs.Inner.{index_of, after, Found}

-- ---- one byte more

-- where a byte first stands, in the library's words
pub index-position : (b : ℕ) (s : List ℕ) → index_of b s ≡ position_or_len (λ x. eqb x b) s
unfolding index_of
index-position b [] = refl
index-position b (x ∷ xs) = first (eqb x b) _ _ (index-position b xs)
  where
    first : (t : Bool) (m n : ℕ) → m ≡ n → after t m ≡ cond (not t) (1 + n) 0
    first true m n e = refl
    first false m n e = omega (arith, e)

-- there is a part
onto-pos : (t : Bool) (x : ℕ) (ps : List (List ℕ)) → 0 < length (onto t x ps)
onto-pos true x ps = zero-lt-suc _
onto-pos false x [] = zero-lt-suc _
onto-pos false x (p ∷ ps) = zero-lt-suc _

pub split-pos : (b : ℕ) (xs : List ℕ) → 0 < length (split b xs)
unfolding split
split-pos b [] = zero-lt-suc _
split-pos b (x ∷ xs) = onto-pos (eqb x b) x (split b xs)

onto-length : (x : ℕ) (ps : List (List ℕ)) → 0 < length ps → length (onto false x ps) ≡ length ps
onto-length x [] h = absurd (not-suc-le-zero h)
onto-length x (p ∷ ps) h = refl

-- each separator makes a part more
onto-count : (t : Bool) (x n : ℕ) (ps : List (List ℕ)) → 0 < length ps → length ps ≡ n + 1 → length (onto t x ps) ≡ cond t 1 0 + n + 1
onto-count true x n ps h e = omega (arith, e)
onto-count false x n ps h e = onto-length x ps h ∙ omega (arith, e)

pub split-count : (b : ℕ) (s : List ℕ) → length (split b s) ≡ count_by (λ x. eqb x b) s + 1
unfolding split
split-count b [] = refl
split-count b (x ∷ xs) =
    onto-count (eqb x b) x (count_by (λ y. eqb y b) xs) (split b xs) (split-pos b xs) (split-count b xs)
    ∙ ap (λ n. n + 1) (sym (sum_by-cons (λ y. cond (eqb y b) 1 0) x xs))

-- ---- the first part, by the first separator

cut-go : (t : Bool) (b x : ℕ) (xs : List ℕ) → after t (index_of b xs) < suc (length xs)
    → (index_of b xs < length xs → split b xs ≡ take (index_of b xs) xs ∷ split b (drop (suc (index_of b xs)) xs))
    → onto t x (split b xs) ≡ take (after t (index_of b xs)) (x ∷ xs) ∷ split b (drop (after t (index_of b xs)) xs)
cut-go true b x xs h ih = refl
cut-go false b x xs h ih = rw (ih (le_of_suc-le-suc h))

split-cut : (b : ℕ) (xs : List ℕ) → index_of b xs < length xs → split b xs ≡ take (index_of b xs) xs ∷ split b (drop (suc (index_of b xs)) xs)
unfolding split index_of
split-cut b [] h = absurd (not-suc-le-zero h)
split-cut b (x ∷ xs) h = cut-go (eqb x b) b x xs h (split-cut b xs)

one-go : (t : Bool) (b x : ℕ) (xs : List ℕ) → suc (length xs) ≤ after t (index_of b xs)
    → (length xs ≤ index_of b xs → split b xs ≡ xs ∷ []) → onto t x (split b xs) ≡ (x ∷ xs) ∷ []
one-go true b x xs h ih = absurd (not-suc-le-zero h)
one-go false b x xs h ih = rw (ih (le_of_suc-le-suc h))

split_one : (b : ℕ) (xs : List ℕ) → length xs ≤ index_of b xs → split b xs ≡ xs ∷ []
unfolding split index_of
split_one b [] h = refl
split_one b (x ∷ xs) h = one-go (eqb x b) b x xs h (split_one b xs)

-- ---- by positions: what `find` tells of the parts from i

-- a separator was found at r: a part ends there and the others start after it
pub part-next : (s : List ℕ) (i b r : ℕ) → Found s i b r → r < length s
    → split b (drop i s) ≡ take (r - i) (drop i s) ∷ split b (drop (r + 1) s)
part-next s i b r f h =
    let k : index_of b (drop i s) ≡ r - i = omega (arith, f.at) in
    let h' : index_of b (drop i s) < length (drop i s) = rw length-drop (omega (arith, f.at)) in
    let e : i + suc (r - i) ≡ r + 1 = omega (arith, f.low) in
    split-cut b (drop i s) h' ∙ rw (k, drop-drop, e)

-- none was found: what is left is the last part
pub part-last : (s : List ℕ) (i b r : ℕ) → Found s i b r → r ≡ length s → split b (drop i s) ≡ drop i s ∷ []
part-last s i b r f h = split_one b (drop i s) (rw length-drop (omega (arith, f.at)))

-- the first part either way
pub part-first : (s : List ℕ) (i b r : ℕ) → Found s i b r → take (r - i) (drop i s) ≡ get_or (split b (drop i s)) 0 []
part-first s i b r f =
    elim (dec_lt r (length s)) [
      | yes h ↦ rw (part-next s i b r f h)
      | no h ↦ rw (part-last s i b r f (omega (arith, h, f.high))) (take_all (r - i) (drop i s) (rw length-drop (omega (arith, h))))
    ]
