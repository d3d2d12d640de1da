-- A word's number gives the word back, and a number is its word's or stands for the missing word.
use Prim.Native.Nat.{ℕ, zero, suc, ◌+◌, ◌-◌, ◌*◌, ◌/◌, ◌%◌, ◌≤◌, ◌<◌}
use mathlib.Core.Path.{◌≡◌, refl, sym, ap, ◌∙◌}
use mathlib.Core.Bool.{true, ◌&&◌, true≢false}
use mathlib.Core.List.{List, [], ◌∷◌, map}
use mathlib.Core.Logic.{◌⊎◌, inl, inr, ⊎_elim}
use native.Mathlib.Decide.{dec_lt}
use native.Mathlib.Omega.{arith}
use borrow.Author.Tests.{lt-ltb, le-ltb, ltb-true}
use lib.Dec.{ltb, lit<}
use lib.ListN.{get_or}
use Rattle.basis.specs.Lists.{all}
use Rattle.basis.proofs.Bools.{and_left, and_right, and_both}
use Rattle.words.specs.Word.{word_number, letters, missing, numbered}
use Rattle.words.specs.Inner.{in_digits}
use Rattle.words.specs.declared.Holding.TheVariants.{User, Object}
use Rattle.words.specs.declared.Comparison.TheVariants.{Dominates, Equals}
use Rattle.words.specs.declared.Word.{Word}
use Rattle.words.specs.declared.Word.TheVariants.{True, False, Holds, Compares, Not, And, Or}

-- ---- the word of a number, range by range

module _ (n : ℕ) where
  pub of_letter : n < 10 → numbered n ≡ get_or letters n missing
  unfolding numbered
  of_letter h = rw (lt-ltb n 10 h)

  pub of_user : 10 ≤ n → n < 20 → numbered n ≡ Holds (User (n - 10))
  unfolding numbered
  of_user g h = rw (le-ltb n 10 g, lt-ltb n 20 h)

  pub of_object : 20 ≤ n → n < 30 → numbered n ≡ Holds (Object (n - 20))
  unfolding numbered
  of_object g h = rw (le-ltb n 10 (omega arith), le-ltb n 20 g, lt-ltb n 30 h)

  pub of_none : 30 ≤ n → n < 50 → numbered n ≡ missing
  unfolding numbered
  of_none g h = rw (le-ltb n 10 (omega arith), le-ltb n 20 (omega arith), le-ltb n 30 g, lt-ltb n 50 h)

  pub of_dominates : 50 ≤ n → n < 150 → numbered n ≡ Compares (Dominates ((n - 50) / 10) ((n - 50) % 10))
  unfolding numbered
  of_dominates g h =
      rw (le-ltb n 10 (omega arith), le-ltb n 20 (omega arith), le-ltb n 30 (omega arith), le-ltb n 50 g, lt-ltb n 150 h)

  pub of_equals : 150 ≤ n → n < 250 → numbered n ≡ Compares (Equals ((n - 150) / 10) ((n - 150) % 10))
  unfolding numbered
  of_equals g h =
      rw (
        le-ltb n 10 (omega arith),
        le-ltb n 20 (omega arith),
        le-ltb n 30 (omega arith),
        le-ltb n 50 (omega arith),
        le-ltb n 150 g,
        lt-ltb n 250 h,
      )

  pub of_past : 250 ≤ n → numbered n ≡ missing
  unfolding numbered
  of_past g =
      rw (
        le-ltb n 10 (omega arith),
        le-ltb n 20 (omega arith),
        le-ltb n 30 (omega arith),
        le-ltb n 50 (omega arith),
        le-ltb n 150 (omega arith),
        le-ltb n 250 g,
      )

-- ---- the digits of a word

module _ (i j : ℕ) (h : (ltb i 10 && ltb j 10) ≡ true) where
  first-digit : i < 10
  first-digit = ltb-true i 10 (and_left _ _ h)

  second-digit : j < 10
  second-digit = ltb-true j 10 (and_right (ltb i 10) _ h)

-- ---- there and back

-- a word's number gives it back
pub numbered-number : (w : Word) → in_digits w ≡ true → numbered (word_number w) ≡ w
unfolding in_digits word_number numbered
numbered-number True h = refl
numbered-number False h = refl
numbered-number Not h = refl
numbered-number And h = refl
numbered-number Or h = refl
numbered-number (Holds (User v)) h =
    let e : 10 + v - 10 ≡ v = omega arith in
    of_user (10 + v) (omega arith) (omega (arith, ltb-true v 10 h)) ∙ rw e
numbered-number (Holds (Object v)) h =
    let e : 20 + v - 20 ≡ v = omega arith in
    of_object (20 + v) (omega arith) (omega (arith, ltb-true v 10 h)) ∙ rw e
numbered-number (Compares (Dominates i j)) h =
    let a = first-digit i j h in
    let b = second-digit i j h in
    let e : (50 + 10 * i + j - 50) / 10 ≡ i = omega arith in
    let f : (50 + 10 * i + j - 50) % 10 ≡ j = omega arith in
    of_dominates (50 + 10 * i + j) (omega arith) (omega arith) ∙ rw (e, f)
numbered-number (Compares (Equals i j)) h =
    let a = first-digit i j h in
    let b = second-digit i j h in
    let e : (150 + 10 * i + j - 150) / 10 ≡ i = omega arith in
    let f : (150 + 10 * i + j - 150) % 10 ≡ j = omega arith in
    of_equals (150 + 10 * i + j) (omega arith) (omega arith) ∙ rw (e, f)

-- and is a byte
pub number-byte : (w : Word) → in_digits w ≡ true → word_number w < 256
unfolding in_digits word_number
number-byte True h = lit< tt
number-byte False h = lit< tt
number-byte Not h = lit< tt
number-byte And h = lit< tt
number-byte Or h = lit< tt
number-byte (Holds (User v)) h = omega (arith, ltb-true v 10 h)
number-byte (Holds (Object v)) h = omega (arith, ltb-true v 10 h)
number-byte (Compares (Dominates i j)) h = omega (arith, first-digit i j h, second-digit i j h)
number-byte (Compares (Equals i j)) h = omega (arith, first-digit i j h, second-digit i j h)

-- ---- back and there

-- a word is the missing one, or has the number and digits
abbrev pub Back : ℕ → Word → Type 0
Back n w = (w ≡ missing) ⊎ ((word_number w ≡ n) × (in_digits w ≡ true))

letter-back : (n : ℕ) → Back n (get_or letters n missing)
unfolding word_number in_digits
letter-back zero = inr (refl, refl)
letter-back (suc zero) = inr (refl, refl)
letter-back (suc (suc zero)) = inr (refl, refl)
letter-back (suc (suc (suc zero))) = inr (refl, refl)
letter-back (suc (suc (suc (suc zero)))) = inr (refl, refl)
letter-back (suc (suc (suc (suc (suc n))))) = inl refl

-- the digits of a number below 100
tens_ones : (m : ℕ) → m < 100 → (ltb (m / 10) 10 && ltb (m % 10) 10) ≡ true
tens_ones m h = and_both _ _ (lt-ltb (m / 10) 10 (omega arith)) (lt-ltb (m % 10) 10 (omega arith))

pub number-numbered : (n : ℕ) → Back n (numbered n)
unfolding word_number in_digits
number-numbered n =
    elim (dec_lt n 10) [
      | yes a ↦ rw (of_letter n a) (letter-back n)
      | no a ↦ elim (dec_lt n 20) [
        | yes b ↦ rw (of_user n (omega arith) b) (inr (omega arith, lt-ltb (n - 10) 10 (omega arith)))
        | no b ↦ elim (dec_lt n 30) [
          | yes c ↦ rw (of_object n (omega arith) c) (inr (omega arith, lt-ltb (n - 20) 10 (omega arith)))
          | no c ↦ elim (dec_lt n 50) [
            | yes d ↦ inl (of_none n (omega arith) d)
            | no d ↦ elim (dec_lt n 150) [
              | yes e ↦ rw (of_dominates n (omega arith) e) (inr (omega arith, tens_ones (n - 50) (omega arith)))
              | no e ↦ elim (dec_lt n 250) [
                | yes f ↦ rw (of_equals n (omega arith) f) (inr (omega arith, tens_ones (n - 150) (omega arith)))
                | no f ↦ inl (of_past n (omega arith))
              ]
            ]
          ]
        ]
      ]
    ]

-- so a number that stands for a word in digits is that word's
pub number-back : (n : ℕ) → in_digits (numbered n) ≡ true → word_number (numbered n) ≡ n
unfolding in_digits
number-back n h = ⊎_elim (λ e. absurd (true≢false (sym h ∙ ap in_digits e))) (λ p. p.0) (number-numbered n)

-- ---- lists of words

pub words_back : (ws : List Word) → all in_digits ws ≡ true → map numbered (map word_number ws) ≡ ws
unfolding all
words_back [] h = refl
words_back (w ∷ ws) h = rw (numbered-number w (and_left _ _ h), words_back ws (and_right (in_digits w) _ h))

pub numbers-back : (ns : List ℕ) → all in_digits (map numbered ns) ≡ true → map word_number (map numbered ns) ≡ ns
unfolding all
numbers-back [] h = refl
numbers-back (n ∷ ns) h = rw (number-back n (and_left _ _ h), numbers-back ns (and_right (in_digits (numbered n)) _ h))
