-- A number, fields, lines and a kind word are read back from what they are written as, and are written as what they
-- were read from.
use Rattle.std.specs.Prelude.{Option, Some}
use Prim.Native.Nat.{ℕ, zero, suc, ◌+◌, ◌*◌, ◌-◌, ◌/◌, ◌%◌, ◌^◌, ◌≤◌, ◌<◌}
use mathlib.Core.Path.{◌≡◌, refl, sym, ap, ◌∙◌, subst}
use mathlib.Core.Bool.{Bool, true, false, cond, not, ◌&&◌, ◌||◌, or-true, false≢true}
use mathlib.Core.Logic.{◌⊎◌, inl, inr, ⊎_elim}
use mathlib.Core.List.{List, [], ◌∷◌, ◌++◌, map, append-nil}
use native.Mathlib.Nat.{pow-suc}
use native.Mathlib.Decide.{dec_lt}
use native.Mathlib.Omega.{arith}
use borrow.Author.Tests.{lt-ltb, le-ltb, le-leb, eq-eqb, ne_eqb, leb-true, eqb-true, eqb-false, not-true}
use lib.Dec.{leb, eqb, lit<}
use lib.ListN.{length, get_or}
use Rattle.basis.specs.Bytes.{byte}
use Rattle.basis.specs.Lists.{all, same}
use Rattle.basis.proofs.Bools.{and_left, and_right, or_cases, never}
use Rattle.basis.proofs.Lists.{all-at, all_of}
use Rattle.basis.proofs.Same.{same-eq}
use Rattle.text.specs.Number.{most_digits, is_digit, digit_of, value_from, value_of, is_number, digits_before, decimal}
use Rattle.text.specs.Parts.{line_feed, comma, onto, split, join, TextLine, lines_of, lines, text_of}
use Rattle.text.specs.Kind.{word_of, kinds, named_in, named}
use Rattle.text.specs.declared.kind.Kind.{Kind}
use Rattle.text.specs.declared.kind.Kind.TheVariants.{Policy, Uattr, Oattr, Usen, Osen, User, Object, Conflict, Rule, Pair, End}
use Rattle.text.proofs.Split.{split-pos}
use Rattle.text.proofs.Naming.{each-kind}

-- ---- numbers

last-digit : (k n : ℕ) (ds : List ℕ) → n < 10 → digits_before (suc k) n ds ≡ (byte "0" + n) ∷ ds
unfolding digits_before
last-digit k n ds h = rw (lt-ltb n 10 h)

more-digits : (k n : ℕ) (ds : List ℕ) → 10 ≤ n → digits_before (suc k) n ds ≡ digits_before k (n / 10) ((byte "0" + n % 10) ∷ ds)
unfolding digits_before
more-digits k n ds h = rw (le-ltb n 10 h)

-- a digit's byte
pub digit-is : (d : ℕ) → d < 10 → is_digit (byte "0" + d) ≡ true
digit-is d h = rw (le-leb (byte "0") (byte "0" + d) (omega arith), le-leb (byte "0" + d) (byte "9") (omega arith))

value-digit : (v d : ℕ) (ds : List ℕ) → value_from v ((byte "0" + d) ∷ ds) ≡ value_from (v * 10 + d) ds
unfolding value_from
value-digit v d ds =
    let e : byte "0" + d - byte "0" ≡ d = omega arith in
    rw e

-- ---- as many digits as there are

-- enough places for a number are as good as more
places-enough : (j k n : ℕ) (ds : List ℕ) → n < 10 ^ suc j → n < 10 ^ suc k → digits_before (suc j) n ds ≡ digits_before (suc k) n ds
places-enough zero k n ds h g = let l : n < 10 = rw (pow-suc 10 0) at h in last-digit 0 n ds l ∙ sym (last-digit k n ds l)
places-enough (suc j) zero n ds h g = let l : n < 10 = rw (pow-suc 10 0) at g in last-digit (suc j) n ds l ∙ sym (last-digit 0 n ds l)
places-enough (suc j) (suc k) n ds h g =
    elim (dec_lt n 10) [
      | yes l ↦ last-digit (suc j) n ds l ∙ sym (last-digit (suc k) n ds l)
      | no l ↦
          let m : 10 ≤ n = omega (arith, l) in
          more-digits (suc j) n ds m
          ∙ places-enough j k (n / 10) ((byte "0" + n % 10) ∷ ds) (omega (arith, pow-suc 10 (suc j))) (omega (arith, pow-suc 10 (suc k)))
          ∙ sym (more-digits (suc k) n ds m)
    ]

below_power : (n : ℕ) → n < 10 ^ n
below_power zero = lit< tt
below_power (suc n) = omega (arith, pow-suc 10 n, below_power n)

pub decimal-places : (k n : ℕ) → 0 < k → n < 10 ^ k → decimal n ≡ digits_before k n []
unfolding decimal
decimal-places zero n p h = absurd (omega arith)
decimal-places (suc k) n p h = places-enough n k n [] (omega (arith, pow-suc 10 n, below_power n)) h

-- a number below 10 is one digit, and any other the digits of its tens and then one
pub decimal-one : (n : ℕ) → n < 10 → decimal n ≡ (byte "0" + n) ∷ []
unfolding decimal
decimal-one n h = last-digit n n [] h

before_more : (k n : ℕ) (ds es : List ℕ) → digits_before k n (ds ++ es) ≡ digits_before k n ds ++ es
unfolding digits_before
before_more zero n ds es = refl
before_more (suc k) n ds es =
    elim (dec_lt n 10) [
      | yes l ↦ rw (lt-ltb n 10 l)
      | no l ↦
          let m : 10 ≤ n = omega (arith, l) in
          rw (le-ltb n 10 m) (before_more k (n / 10) ((byte "0" + n % 10) ∷ ds) es)
    ]

pub decimal-more : (n : ℕ) → 10 ≤ n → decimal n ≡ decimal (n / 10) ++ ((byte "0" + n % 10) ∷ [])
unfolding decimal
decimal-more n h =
    let l : n / 10 < 10 ^ n = omega (arith, below_power n) in
    more-digits n n [] h
    ∙ before_more n (n / 10) [] ((byte "0" + n % 10) ∷ [])
    ∙ ap (λ (ds : List ℕ). ds ++ ((byte "0" + n % 10) ∷ [])) (sym (decimal-places n (n / 10) (omega arith) l))

-- at most k digits more
record Few (k : ℕ) (ds l : List ℕ) : Type 0 where
  most : length l ≤ k + length ds
  digits : all is_digit ds ≡ true → all is_digit l ≡ true

few : (k n : ℕ) (ds : List ℕ) → Few k ds (digits_before k n ds)
unfolding digits_before all
few zero n ds = record { most = omega arith; digits = λ h. h }
few (suc k) n ds =
    elim (dec_lt n 10) [
      | yes l ↦ rw (last-digit k n ds l) (record { most = omega arith; digits = λ h. rw (digit-is n l, h) })
      | no l ↦
          let m : n % 10 < 10 = omega arith in
          let s = few k (n / 10) ((byte "0" + n % 10) ∷ ds) in
          rw (more-digits k n ds (omega (arith, l)))
          (record { most = omega (arith, s.most); digits = λ h. s.digits (rw (digit-is (n % 10) m, h)) })
    ]

pub decimal-short : (k n : ℕ) → 0 < k → n < 10 ^ k → length (decimal n) ≤ k
decimal-short k n p h = rw (decimal-places k n p h) (omega (arith, (few k n []).most))

pub decimal-digits : (n : ℕ) → all is_digit (decimal n) ≡ true
unfolding decimal all
decimal-digits n = (few (suc n) n []).digits refl

-- enough digits for the number: their value, and that several do not start with 0
record Whole (n : ℕ) (ds l : List ℕ) : Type 0 where
  value : value_from 0 l ≡ value_from n ds
  some : length ds < length l
  lead : 0 < n → get_or l 0 0 ≡ byte "0" → ⊥
  alone : n < 10 → l ≡ (byte "0" + n) ∷ ds

one-digit : (n : ℕ) (ds : List ℕ) → n < 10 → Whole n ds ((byte "0" + n) ∷ ds)
one-digit n ds h =
    let e : 0 * 10 + n ≡ n = omega arith in
    record { value = value-digit 0 n ds ∙ rw e; some = omega arith; lead = λ p q. omega arith; alone = λ _. refl }

whole : (k n : ℕ) (ds : List ℕ) → n < 10 ^ suc k → Whole n ds (digits_before (suc k) n ds)
whole zero n ds h =
    let l : n < 10 = rw (pow-suc 10 0) at h in
    rw (last-digit 0 n ds l) (one-digit n ds l)
whole (suc k) n ds h =
    elim (dec_lt n 10) [
      | yes l ↦ rw (last-digit (suc k) n ds l) (one-digit n ds l)
      | no l ↦
          let q : n / 10 < 10 ^ suc k = omega (arith, pow-suc 10 (suc k)) in
          let e : n / 10 * 10 + n % 10 ≡ n = omega arith in
          let s = whole k (n / 10) ((byte "0" + n % 10) ∷ ds) q in
          rw (more-digits (suc k) n ds (omega (arith, l)))
          (record {
            value = s.value ∙ value-digit (n / 10) (n % 10) ds ∙ rw e;
            some = omega (arith, s.some);
            lead = λ p z. s.lead (omega (arith, l)) z;
            alone = λ p. absurd (omega (arith, p, l));
          })
    ]

whole-decimal : (n : ℕ) → Whole n [] (decimal n)
unfolding decimal
whole-decimal n = whole n n [] (omega (arith, pow-suc 10 n, below_power n))

pub decimal-value : (n : ℕ) → value_of (decimal n) ≡ n
unfolding value_from
decimal-value n = (whole-decimal n).value

no_lead : (n : ℕ) (l : List ℕ) → Whole n [] l → (eqb (length l) 1 || not (eqb (get_or l 0 0) (byte "0"))) ≡ true
no_lead zero l w = rw (w.alone (omega arith))
no_lead (suc n) l w = rw (ne_eqb (get_or l 0 0) (byte "0") (w.lead (omega arith)), or-true)

pub decimal-number : (n : ℕ) → n < 10 ^ most_digits → is_number (decimal n) ≡ true
unfolding is_number
decimal-number n h =
    let w = whole-decimal n in
    let l : 1 ≤ length (decimal n) = omega (arith, w.some) in
    rw (le-leb 1 (length (decimal n)) l, le-leb (length (decimal n)) most_digits (decimal-short most_digits n (lit< tt) h), decimal-digits n, no_lead n (decimal n) w)

-- the digits of what a number field says are the field

pub digit-bounds : (d : ℕ) → is_digit d ≡ true → (byte "0" ≤ d) × (d ≤ byte "9")
digit-bounds d e =
    let l = leb (byte "0") d in
    let h = leb d (byte "9") in
    (leb-true (byte "0") d (and_left l h e), leb-true d (byte "9") (and_right l h e))

value-lt : (v k : ℕ) (ds : List ℕ) → all is_digit ds ≡ true → v < 10 ^ k → value_from v ds < 10 ^ (k + length ds)
unfolding all value_from
value-lt v k [] e h =
    let z : k + 0 ≡ k = omega arith in
    rw z h
value-lt v k (d ∷ ds) e h =
    let b = digit-bounds d (and_left (is_digit d) (all is_digit ds) e) in
    let z : k + suc (length ds) ≡ suc k + length ds = omega arith in
    rw z (value-lt (v * 10 + digit_of d) (suc k) ds (and_right (is_digit d) (all is_digit ds) e) (omega (arith, pow-suc 10 k)))

-- n is v and then the digits ds: its digits are those of v and then ds
digits-after : (k v : ℕ) (ds es : List ℕ) → 0 < v → all is_digit ds ≡ true
    → digits_before (k + length ds) (value_from v ds) es ≡ digits_before k v (ds ++ es)
unfolding all value_from
digits-after k v [] es h e =
    let z : k + 0 ≡ k = omega arith in
    rw z
digits-after k v (d ∷ ds) es h e =
    let b = digit-bounds d (and_left (is_digit d) (all is_digit ds) e) in
    let z : k + suc (length ds) ≡ suc k + length ds = omega arith in
    let w = v * 10 + digit_of d in
    let q : w / 10 ≡ v = omega arith in
    let m : byte "0" + w % 10 ≡ d = omega arith in
    let t = and_right (is_digit d) (all is_digit ds) e in
    rw z (digits-after (suc k) w ds es (omega arith) t ∙ more-digits k w (ds ++ es) (omega arith) ∙ rw (q, m))

digits_of : (d : ℕ) (ds : List ℕ) → is_digit d ≡ true → all is_digit ds ≡ true → (0 < length ds → d ≡ byte "0" → ⊥)
    → decimal (value_of (d ∷ ds)) ≡ d ∷ ds
unfolding value_from all
digits_of d [] e f z =
    let b = digit-bounds d e in
    let v = 0 * 10 + digit_of d in
    let q : byte "0" + v ≡ d = omega arith in
    decimal-places 1 v (lit< tt) (rw (pow-suc 10 0) (omega arith)) ∙ last-digit 0 v [] (omega arith) ∙ rw q
digits_of d (x ∷ ds) e f z =
    let b = digit-bounds d e in
    let p : d ≡ byte "0" → ⊥ = z (omega arith) in
    let v = 0 * 10 + digit_of d in
    let q : byte "0" + v ≡ d = omega arith in
    let l : v < 10 ^ 1 = rw (pow-suc 10 0) (omega arith) in
    decimal-places (1 + length (x ∷ ds)) (value_from v (x ∷ ds)) (omega arith) (value-lt v 1 (x ∷ ds) f l)
    ∙ digits-after 1 v (x ∷ ds) [] (omega (arith, p)) f
    ∙ last-digit 0 v ((x ∷ ds) ++ []) (omega arith)
    ∙ rw (q, append-nil)

record Number (f : List ℕ) : Type 0 where
  some : 1 ≤ length f
  most : length f ≤ most_digits
  digits : all is_digit f ≡ true
  lead : (length f ≡ 1) ⊎ (get_or f 0 0 ≡ byte "0" → ⊥)

number_is : (f : List ℕ) → is_number f ≡ true → Number f
unfolding is_number
number_is f e =
    let a = leb 1 (length f) in
    let b = leb (length f) most_digits in
    let c = all is_digit f in
    let z = eqb (get_or f 0 0) (byte "0") in
    let d = eqb (length f) 1 || not z in
    let r = and_right a (b && (c && d)) e in
    let s = and_right b (c && d) r in
    record {
      some = leb-true 1 (length f) (and_left a (b && (c && d)) e);
      most = leb-true (length f) most_digits (and_left b (c && d) r);
      digits = and_left c d s;
      lead =
          ⊎_elim (λ p. inl (eqb-true (length f) 1 p)) (λ p. inr (eqb-false (get_or f 0 0) (byte "0") (not-true z p)))
          (or_cases (eqb (length f) 1) (not z) (and_right c d s));
    }

pub value-decimal : (f : List ℕ) → is_number f ≡ true → decimal (value_of f) ≡ f
unfolding all
value-decimal [] e = absurd (omega (arith, (number_is [] e).some))
value-decimal (d ∷ ds) e =
    let n = number_is (d ∷ ds) e in
    let h = and_left (is_digit d) (all is_digit ds) n.digits in
    let t = and_right (is_digit d) (all is_digit ds) n.digits in
    digits_of d ds h t
    (λ h. ⊎_elim (λ p. absurd (omega arith)) (λ p. p) n.lead)

-- ---- parts

-- a byte does not stand in a list
abbrev pub lacks : ℕ → List ℕ → Bool
lacks b xs = all (λ x. not (eqb x b)) xs

not-here : (x b : ℕ) (xs : List ℕ) → lacks b (x ∷ xs) ≡ true → eqb x b ≡ false
unfolding all
not-here x b xs h = not-true (eqb x b) (and_left (not (eqb x b)) (lacks b xs) h)

not_after : (x b : ℕ) (xs : List ℕ) → lacks b (x ∷ xs) ≡ true → lacks b xs ≡ true
unfolding all
not_after x b xs h = and_right (not (eqb x b)) (lacks b xs) h

-- a list whose bytes all pass a test holds no byte that fails it
other : (f : ℕ → Bool) (b x : ℕ) → f b ≡ false → f x ≡ true → not (eqb x b) ≡ true
other f b x n e = rw (ne_eqb x b (λ q. never (f b) (rw q at e) n))

pub lacks-failing : (f : ℕ → Bool) (b : ℕ) (xs : List ℕ) → f b ≡ false → all f xs ≡ true → lacks b xs ≡ true
lacks-failing f b xs n e = all_of (λ x. not (eqb x b)) xs (λ x m. other f b x n (all-at f xs e x m))

pub decimal-lacks-comma : (n : ℕ) → lacks comma (decimal n) ≡ true
decimal-lacks-comma n = lacks-failing is_digit comma (decimal n) refl (decimal-digits n)

pub decimal-lacks-feed : (n : ℕ) → lacks line_feed (decimal n) ≡ true
decimal-lacks-feed n = lacks-failing is_digit line_feed (decimal n) refl (decimal-digits n)

-- a part that holds no separator, with one after it, and alone
pub split-part : (b : ℕ) (p r : List ℕ) → lacks b p ≡ true → split b (p ++ b ∷ r) ≡ p ∷ split b r
unfolding split
split-part b [] r h = rw (eq-eqb b b refl)
split-part b (x ∷ p) r h = rw (not-here x b p h, split-part b p r (not_after x b p h))

pub split-free : (b : ℕ) (p : List ℕ) → lacks b p ≡ true → split b p ≡ p ∷ []
unfolding split
split-free b [] h = refl
split-free b (x ∷ p) h = rw (not-here x b p h, split-free b p (not_after x b p h))

-- parting undoes joining
pub split-join : (b : ℕ) (ps : List (List ℕ)) → 0 < length ps → all (lacks b) ps ≡ true → split b (join b ps) ≡ ps
unfolding join all
split-join b [] l h = absurd (omega arith)
split-join b (p ∷ []) l h = split-free b p (and_left (lacks b p) true h)
split-join b (p ∷ q ∷ ps) l h =
    let f = and_left (lacks b p) (all (lacks b) (q ∷ ps)) h in
    let r = and_right (lacks b p) (all (lacks b) (q ∷ ps)) h in
    rw (split-part b p (join b (q ∷ ps)) f, split-join b (q ∷ ps) (omega arith) r)

-- joining undoes parting
join-onto : (t : Bool) (b x : ℕ) (ps : List (List ℕ)) → eqb x b ≡ t → 0 < length ps → join b (onto t x ps) ≡ x ∷ join b ps
unfolding join
join-onto t b x [] e h = absurd (omega arith)
join-onto true b x (p ∷ ps) e h = rw (eqb-true x b e)
join-onto false b x (p ∷ []) e h = refl
join-onto false b x (p ∷ q ∷ ps) e h = refl

pub join-split : (b : ℕ) (t : List ℕ) → join b (split b t) ≡ t
unfolding join split
join-split b [] = refl
join-split b (x ∷ t) = join-onto (eqb x b) b x (split b t) refl (split-pos b t) ∙ rw (join-split b t)

-- ---- lines

abbrev pub ended_line : List ℕ → TextLine
ended_line l = record { bytes = l; ended = true }

pub lines_cons : (p : List ℕ) (ps : List (List ℕ)) → 0 < length ps → lines_of (p ∷ ps) ≡ ended_line p ∷ lines_of ps
unfolding lines_of
lines_cons p [] h = absurd (omega arith)
lines_cons [] (q ∷ ps) h = refl
lines_cons (x ∷ p) (q ∷ ps) h = refl

-- one line more
pub lines_next : (l t : List ℕ) → lacks line_feed l ≡ true → lines (l ++ line_feed ∷ t) ≡ ended_line l ∷ lines t
lines_next l t h = rw (split-part line_feed l t h) (lines_cons l (split line_feed t) (split-pos line_feed t))

pub lines-text : (ls : List (List ℕ)) → all (lacks line_feed) ls ≡ true → lines (text_of ls) ≡ map ended_line ls
unfolding text_of all split lines_of
lines-text [] h = refl
lines-text (l ∷ ls) h =
    lines_next l (text_of ls) (and_left (lacks line_feed l) (all (lacks line_feed) ls) h)
    ∙ rw (lines-text ls (and_right (lacks line_feed l) (all (lacks line_feed) ls) h))

text-join : (ps : List (List ℕ)) → 0 < length ps → all (λ l. l.ended) (lines_of ps) ≡ true
    → text_of (map (λ l. l.bytes) (lines_of ps)) ≡ join line_feed ps
unfolding text_of join all lines_of
text-join [] l h = absurd (omega arith)
text-join ([] ∷ []) l h = refl
text-join ((x ∷ p) ∷ []) l h = absurd (false≢true h)
text-join (p ∷ q ∷ ps) l h = rw (text-join (q ∷ ps) (omega arith) h)

-- a text of ended lines is its lines, each ended
pub text-lines : (t : List ℕ) → all (λ l. l.ended) (lines t) ≡ true → text_of (map (λ l. l.bytes) (lines t)) ≡ t
text-lines t h = text-join (split line_feed t) (split-pos line_feed t) h ∙ join-split line_feed t

-- ---- kind words

pub named-word : (k : Kind) → named (word_of k) ≡ Some k
unfolding named_in same
named-word Policy = refl
named-word Uattr = refl
named-word Oattr = refl
named-word Usen = refl
named-word Osen = refl
named-word User = refl
named-word Object = refl
named-word Conflict = refl
named-word Rule = refl
named-word Pair = refl
named-word End = refl

is-first : (b : Bool) (j k : Kind) (x : Option Kind) → cond b (Some j) x ≡ Some k → ((b ≡ true) × (j ≡ k)) ⊎ (x ≡ Some k)
is-first true j k x e = inl (refl, cc)
is-first false j k x e = inr e

word_in : (f : List ℕ) (ks : List Kind) (k : Kind) → named_in ks f ≡ Some k → same eqb f (word_of k) ≡ true
unfolding named_in
word_in f [] k e = let z : ◌≡◌ {A = ℕ} 0 1 = cc in absurd (omega arith)
word_in f (j ∷ ks) k e =
    ⊎_elim (λ p. subst (λ (i : Kind). same eqb f (word_of i) ≡ true) p.1 p.0) (λ q. word_in f ks k q)
    (is-first (same eqb f (word_of j)) j k (named_in ks f) e)

pub word_named : (f : List ℕ) (k : Kind) → named f ≡ Some k → f ≡ word_of k
word_named f k e = same-eq eqb eqb-true f (word_of k) (word_in f kinds k e)

pub word_lacks_comma : (k : Kind) → lacks comma (word_of k) ≡ true
unfolding all
word_lacks_comma k = each-kind (λ j. lacks comma (word_of j)) refl k

pub word_lacks_feed : (k : Kind) → lacks line_feed (word_of k) ≡ true
unfolding all
word_lacks_feed k = each-kind (λ j. lacks line_feed (word_of j)) refl k
