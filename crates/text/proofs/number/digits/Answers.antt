-- `text::number::digits` meets its contract: what the digits from i on say after v is what all say after 0.
use Rattle.std.specs.Prelude.{Option, Some, None}
use Prim.Native.Nat.{ℕ, ◌+◌, ◌*◌, ◌^◌, ◌≤◌, ◌<◌}
use mathlib.Core.Path.{◌≡◌, sym, ◌∙◌}
use mathlib.Core.Bool.{true, false}
use mathlib.Core.List.{List}
use native.Mathlib.Numerals.{add-one}
use native.Mathlib.Nat.{pow-suc, pow-le-pow_right, zero-lt-suc}
use native.Mathlib.Omega.{arith}
use lib.ListN.{length, get_or, drop, drop_of_length-le}
use lib.Seq.{drop-cons}
use Rattle.basis.specs.Lists.{all}
use Rattle.text.specs.Number.{is_digit, digit_of, value_from, most_digits}
use Rattle.text.proofs.number.digits.Invariants.{said_after}
use Rattle.text.proofs.number.digits.Goals as goal

-- one digit more
small : (i v : ℕ) → v < 10 ^ i → v * 10 + 9 < 10 ^ (i + 1)
small i v l = rw (add-one, pow-suc) (omega arith)

fits : (i v : ℕ) → i < most_digits → v < 10 ^ i → v * 10 + 9 < 10 ^ most_digits
fits i v h l =
    let k : i + 1 ≤ most_digits = omega arith in
    let m : 10 ^ (i + 1) ≤ 10 ^ most_digits = pow-le-pow_right (zero-lt-suc 9) k in
    omega (arith, small i v l)

-- the answer x, by the byte at i
module _ (f : List ℕ) (i v : ℕ) (x : Option ℕ) (is : x ≡ said_after v (drop i f)) where
  other : i < length f → is_digit (get_or f i 0) ≡ false → None ≡ x
  unfolding all
  other h e = sym (is ∙ rw (drop-cons f i 0 h) (simp e))

  next : i < length f → is_digit (get_or f i 0) ≡ true → x ≡ said_after (v * 10 + digit_of (get_or f i 0)) (drop (i + 1) f)
  unfolding all value_from
  next h e = is ∙ rw (drop-cons f i 0 h, add-one) (simp e)

  over : length f ≤ i → Some v ≡ x
  unfolding all value_from
  over h = sym (is ∙ rw (drop_of_length-le f h))

pub returns-then-not-is_ascii_digit : goal.returns-then-not-is_ascii_digit
returns-then-not-is_ascii_digit c =
    let l = c.loop-d in
    other c.args.f.now l.d-index l.v _ l.invariant.1 c.loop-d-test.true (sym c.is_ascii_digit.ensures.value ∙ c.if-not-is_ascii_digit.true)

pub overflow_mul-v : goal.overflow_mul-v
overflow_mul-v c =
    let l = c.loop-d in
    omega (arith, fits l.d-index l.v (omega arith) l.invariant.0)

pub overflow_add-v : goal.overflow_add-v
overflow_add-v c =
    let l = c.loop-d in
    omega (arith, fits l.d-index l.v (omega arith) l.invariant.0)

pub loop-d-preserved : goal.loop-d-preserved
loop-d-preserved c =
    let l = c.loop-d in
    let e : is_digit (get_or c.args.f.now l.d-index 0) ≡ true = sym c.is_ascii_digit.ensures.value ∙ c.if-not-is_ascii_digit.false in
    let k = c.if-not-is_ascii_digit.ensures in
    (omega (arith, small l.d-index l.v l.invariant.0, k.cases.0, k.cases.1, c.from.ensures), rw c.from.ensures (next c.args.f.now l.d-index l.v _ l.invariant.1 c.loop-d-test.true e))

pub returns : goal.returns
returns c = search over
