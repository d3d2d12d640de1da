-- A word is read back from what it is written as, and is written as what it was read from.
use Rattle.std.specs.Prelude.{Option, Some, None}
use Prim.Native.Nat.{ℕ, ◌+◌, ◌≤◌}
use mathlib.Core.Path.{◌≡◌, refl}
use mathlib.Core.Bool.{Bool, true, false, cond, ◌&&◌}
use mathlib.Core.List.{List, [], ◌∷◌}
use native.Mathlib.Omega.{arith}
use borrow.Author.Tests.{lt-ltb, le-leb, ltb-true, eqb-true}
use lib.Dec.{leb, ltb, eqb, lit≤}
use lib.ListN.{length}
use Rattle.basis.specs.Bytes.{byte}
use Rattle.basis.specs.Lists.{all}
use Rattle.basis.proofs.Bools.{and_left, and_right}
use Rattle.text.specs.Number.{is_digit, digit_of}
use Rattle.text.specs.Parts.{comma, line_feed}
use Rattle.text.proofs.RoundTrip.{digit-is, digit-bounds, lacks, lacks-failing}
use Rattle.words.specs.Word.{letter, holding, comparison, parsed, written}
use Rattle.words.specs.Inner.{in_digits}
use Rattle.words.specs.declared.Holding.TheVariants.{User, Object}
use Rattle.words.specs.declared.Comparison.TheVariants.{Dominates, Equals}
use Rattle.words.specs.declared.Word.{Word}
use Rattle.words.specs.declared.Word.TheVariants.{True, False, Holds, Compares, Not, And, Or}

-- ---- there and back

module _ (v : ℕ) (h : ltb v 10 ≡ true) where
  byte-is : is_digit (byte "0" + v) ≡ true
  byte-is = digit-is v (ltb-true v 10 h)

  byte_of : digit_of (byte "0" + v) ≡ v
  byte_of = omega arith

pub parsed-written : (w : Word) → in_digits w ≡ true → parsed (written w) ≡ Some w
unfolding in_digits parsed written letter holding comparison
parsed-written True h = refl
parsed-written False h = refl
parsed-written (Holds (User v)) h = rw (byte-is v h, byte_of v h)
parsed-written (Holds (Object v)) h = rw (byte-is v h, byte_of v h)
parsed-written (Compares (Dominates i j)) h =
    let p = and_left (ltb i 10) (ltb j 10) h in
    let q = and_right (ltb i 10) (ltb j 10) h in
    rw (byte-is i p, byte-is j q, byte_of i p, byte_of j q)
parsed-written (Compares (Equals i j)) h =
    let p = and_left (ltb i 10) (ltb j 10) h in
    let q = and_right (ltb i 10) (ltb j 10) h in
    rw (byte-is i p, byte-is j q, byte_of i p, byte_of j q)
parsed-written Not h = refl
parsed-written And h = refl
parsed-written Or h = refl

-- ---- back and there

pub record From (w : Word) (f : List ℕ) : Type 0 where
  pub writes : written w ≡ f
  pub digits : in_digits w ≡ true

-- a case of the reading: it is taken and its word writes the field, or a later one is
choose : (f : List ℕ) (b : Bool) (v : Word) (x : Option Word) → (b ≡ true → From v f) → ((w : Word) → x ≡ Some w → From w f)
    → (w : Word) → cond b (Some v) x ≡ Some w → From w f
choose f true v x h g w e =
    let q : v ≡ w = cc in
    rw q at (h refl)
choose f false v x h g w e = g w e

none : (f : List ℕ) (w : Word) → None ≡ Some w → From w f
none f w e = let z : ◌≡◌ {A = ℕ} 0 1 = cc in absurd (omega arith)

passed : (b : Bool) (x : Option Word) (w : Word) → cond b x None ≡ Some w → (b ≡ true) × (x ≡ Some w)
passed true x w e = (refl, e)
passed false x w e = let z : ◌≡◌ {A = ℕ} 0 1 = cc in absurd (omega arith)

-- the first byte is the word's letter
made : (w : Word) (b : ℕ) (xs : List ℕ) → written w ≡ b ∷ xs → in_digits w ≡ true → (c : ℕ) → eqb c b ≡ true → From w (c ∷ xs)
made w b xs e d c p = record { writes = rw (eqb-true c b p, e); digits = d }

letter-from : (c : ℕ) (w : Word) → letter c ≡ Some w → From w (c ∷ [])
unfolding letter written in_digits
letter-from c =
    choose f (eqb c (byte "t")) True _ (made True (byte "t") [] refl refl c)
    (choose f (eqb c (byte "f")) False _ (made False (byte "f") [] refl refl c)
    (choose f (eqb c (byte "n")) Not _ (made Not (byte "n") [] refl refl c)
    (choose f (eqb c (byte "a")) And _ (made And (byte "a") [] refl refl c)
    (choose f (eqb c (byte "r")) Or _ (made Or (byte "r") [] refl refl c)
    (none f)))))
  where
    f : List ℕ
    f = c ∷ []

module _ (b : ℕ) (h : is_digit b ≡ true) where
  of_byte : byte "0" + digit_of b ≡ b
  of_byte = omega (arith, digit-bounds b h)

  of_digit : ltb (digit_of b) 10 ≡ true
  of_digit = lt-ltb (digit_of b) 10 (omega (arith, digit-bounds b h))

holding-from : (c v : ℕ) (w : Word) → holding c v ≡ Some w → From w (c ∷ v ∷ [])
unfolding holding written in_digits
holding-from c v w e =
    let p = passed (is_digit v) _ w e in
    let h = p.0 in
    choose f (eqb c (byte "u")) (Holds (User n)) _ (made (Holds (User n)) (byte "u") (v ∷ []) (rw (of_byte v h)) (of_digit v h) c)
    (choose f (eqb c (byte "o")) (Holds (Object n)) _ (made (Holds (Object n)) (byte "o") (v ∷ []) (rw (of_byte v h)) (of_digit v h) c)
    (none f)) w p.1
  where
    f : List ℕ
    f = c ∷ v ∷ []

    n : ℕ
    n = digit_of v

comparison-from : (c i j : ℕ) (w : Word) → comparison c i j ≡ Some w → From w (c ∷ i ∷ j ∷ [])
unfolding comparison written in_digits
comparison-from c i j w e =
    let p = passed (is_digit i && is_digit j) _ w e in
    let h = and_left (is_digit i) (is_digit j) p.0 in
    let g = and_right (is_digit i) (is_digit j) p.0 in
    let s : (ltb m 10 && ltb n 10) ≡ true = rw (of_digit i h, of_digit j g) in
    choose f (eqb c (byte "d")) (Compares (Dominates m n)) _ (made (Compares (Dominates m n)) (byte "d") (i ∷ j ∷ []) (rw (of_byte i h, of_byte j g)) s c)
    (choose f (eqb c (byte "q")) (Compares (Equals m n)) _ (made (Compares (Equals m n)) (byte "q") (i ∷ j ∷ []) (rw (of_byte i h, of_byte j g)) s c)
    (none f)) w p.1
  where
    f : List ℕ
    f = c ∷ i ∷ j ∷ []

    m : ℕ
    m = digit_of i

    n : ℕ
    n = digit_of j

pub written-parsed : (f : List ℕ) (w : Word) → parsed f ≡ Some w → From w f
unfolding parsed
written-parsed [] w e = none [] w e
written-parsed (c ∷ []) w e = letter-from c w e
written-parsed (c ∷ v ∷ []) w e = holding-from c v w e
written-parsed (c ∷ i ∷ j ∷ []) w e = comparison-from c i j w e
written-parsed (c ∷ i ∷ j ∷ x ∷ xs) w e = none (c ∷ i ∷ j ∷ x ∷ xs) w e

-- ---- a word is short, and its bytes are letters and digits

-- the most bytes of a word
abbrev pub most_letters : ℕ
most_letters = 3

pub written-short : (w : Word) → length (written w) ≤ most_letters
unfolding written
written-short True = lit≤ tt
written-short False = lit≤ tt
written-short (Holds (User v)) = lit≤ tt
written-short (Holds (Object v)) = lit≤ tt
written-short (Compares (Dominates i j)) = lit≤ tt
written-short (Compares (Equals i j)) = lit≤ tt
written-short Not = lit≤ tt
written-short And = lit≤ tt
written-short Or = lit≤ tt

from_zero : (v : ℕ) → leb (byte "0") (byte "0" + v) ≡ true
from_zero v = le-leb (byte "0") (byte "0" + v) (omega arith)

high : (w : Word) → all (leb (byte "0")) (written w) ≡ true
unfolding written all
high True = refl
high False = refl
high (Holds (User v)) = rw (from_zero v)
high (Holds (Object v)) = rw (from_zero v)
high (Compares (Dominates i j)) = rw (from_zero i, from_zero j)
high (Compares (Equals i j)) = rw (from_zero i, from_zero j)
high Not = refl
high And = refl
high Or = refl

pub written-lacks-comma : (w : Word) → lacks comma (written w) ≡ true
written-lacks-comma w = lacks-failing (leb (byte "0")) comma (written w) refl (high w)

pub written-lacks-feed : (w : Word) → lacks line_feed (written w) ≡ true
written-lacks-feed w = lacks-failing (leb (byte "0")) line_feed (written w) refl (high w)
