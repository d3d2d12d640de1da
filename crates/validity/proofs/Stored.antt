-- A list stored in an array, blank behind it: what each test of the code says of it. One law for each answer of the
-- tests of a whole list.
use Rattle.std.specs.Prelude.{None}
use Prim.Native.Nat.{ℕ, ◌-◌, ◌≤◌, ◌<◌}
use mathlib.Core.Path.{◌≡◌, refl, sym, ◌∙◌}
use mathlib.Core.Bool.{Bool, true, false, ◌&&◌, and-false, and-true, and_assoc}
use mathlib.Core.List.{List, []}
use native.Mathlib.Omega.{arith}
use borrow.Author.Tests.{eq-eqb, ne_eqb, eqb-true, lt-leb, le-leb, leb-true, leb-false}
use lib.Bits.{bit_or, and_le_l, and_le_r, or_add_and}
use lib.Dec.{eqb, leb}
use lib.ListN.{length, take, drop, length-map, length-take}
use lib.Seq.{length-take-le}
use Rattle.basis.specs.Lists.{all, same}
use Rattle.basis.proofs.Bools.{and_left, and_right, and_both, both_ways}
use Rattle.basis.proofs.Padded.{same-padded}
use Rattle.basis.proofs.Same.{same_self}
use Rattle.seniority.specs.Seniority.{direct}
use Rattle.seniority.specs.declared.Direct.{Direct}
use Rattle.words.specs.Inner.{in_digits}
use Rattle.words.proofs.Numbers.{numbers-back}
use Rattle.policy.specs.Checks.{SideSizes, Sizes, conflict_fits, pair_fits}
use Rattle.policy.specs.Policy.{conflict, pair}
use Rattle.policy.specs.Value.{width_places, entry_places, conflict_places, word_places, words_in, pair_places, no_entry, no_rule, entries_of, register, conflicts_value, conflicts_of, rule_value, rule_of, pairs_value, pairs_of, line_places}
use Rattle.policy.specs.Valid.{same_line, same_entry, same_conflict, same_pair, same_register, same_conflicts, same_rule, same_pairs}
use Rattle.policy.specs.Inner.Sound.{widths_sound, rising, line_in, line_above, number_in, number_above, pair_higher, set_above}
use Rattle.policy.specs.declared.value.Register.{Register}
use Rattle.policy.specs.declared.value.Conflicts.{Conflicts}
use Rattle.policy.specs.declared.value.Pairs.{Pairs}
use Rattle.policy.specs.declared.value.RuleValue.{RuleValue}
use Rattle.policy.specs.declared.value.Pair.{Pair}
use Rattle.policy.proofs.Same.{exact_number, exact_line, exact_entry, exact_conflict, exact_pair}
use Rattle.validity.proofs.Blank.{whole}
use Rattle.validity.specs.Inner.{holds, widths_valid, lines_valid, register_valid, conflicts_valid, pairs_valid}

-- ---- any list

module _ {A : Type 0} (e : A → A → Bool) (blank : A) (xs : List A) (n m : ℕ) (k : length xs ≡ m) where
  -- more elements than places
  pub holds-out : m < n → holds e m blank xs n ≡ false
  unfolding holds
  holds-out h = rw (ne_eqb (length (take n xs)) n (λ q. omega (arith, length-take n xs)))

  -- the rest is blank
  pub holds-in : ((x : A) → e x x ≡ true) → n ≤ m → holds e m blank xs n ≡ all (e blank) (drop n xs)
  unfolding holds
  holds-in r h =
      let l : length (take n xs) ≡ n = length-take-le n xs (omega arith) in
      rw (eq-eqb (length (take n xs)) n l, ← k, same-padded e blank (take n xs) xs (omega arith), l, same_self e r (take n xs))

  -- both at once
  pub holds-is : ((x : A) → e x x ≡ true) → holds e m blank xs n ≡ (leb n m && all (e blank) (drop n xs))
  holds-is r = go (leb n m) refl
    where
      go : (b : Bool) → leb n m ≡ b → holds e m blank xs n ≡ (b && all (e blank) (drop n xs))
      go true q = holds-in r (leb-true n m q)
      go false q = holds-out (leb-false n m q)

  -- and the list keeps to its limit
  pub holds-few : ((x : A) → e x x ≡ true) → (r : Bool)
      → (holds e m blank xs n && (leb (length (take n xs)) m && r)) ≡ (leb n m && (all (e blank) (drop n xs) && r))
  holds-few s r = go (leb n m) refl
    where
      go : (b : Bool) → leb n m ≡ b → (holds e m blank xs n && (leb (length (take n xs)) m && r)) ≡ (b && (all (e blank) (drop n xs) && r))
      go true q = let h = leb-true n m q in rw (holds-in s h, le-leb (length (take n xs)) m (omega (arith, h, length-take n xs)))
      go false q = rw (holds-out (leb-false n m q))

-- ---- a blank place

pub eqb_swap : (a b : ℕ) → eqb a b ≡ eqb b a
eqb_swap a b = both_ways (eqb a b) (eqb b a) (λ e. eq-eqb b a (sym (eqb-true a b e))) (λ e. eq-eqb a b (sym (eqb-true b a e)))

-- two numbers that must be 0, tested as one
pub zero-both : (a b : ℕ) → eqb (bit_or a b) 0 ≡ (eqb a 0 && eqb b 0)
zero-both a b =
    both_ways (eqb (bit_or a b) 0) (eqb a 0 && eqb b 0)
    (λ e.
    let z = eqb-true (bit_or a b) 0 e in
    and_both (eqb a 0) (eqb b 0) (eq-eqb a 0 (omega (arith, z, or_add_and a b, and_le_r a b))) (eq-eqb b 0 (omega (arith, z, or_add_and a b, and_le_l a b))))
    (λ e. rw (eqb-true a 0 (and_left (eqb a 0) (eqb b 0) e), eqb-true b 0 (and_right (eqb a 0) (eqb b 0) e)))

-- a blank element, tested as one number
pub blank-two : (a b : ℕ) → eqb (bit_or a b) 0 ≡ (eqb 0 a && eqb 0 b)
blank-two a b = zero-both a b ∙ rw (eqb_swap a 0, eqb_swap b 0)

pub blank-pair : (x : Pair) → eqb (bit_or (bit_or x.action x.user) x.object) 0 ≡ same_pair (pair 0 0 0) x
blank-pair x =
    zero-both (bit_or x.action x.user) x.object
    ∙ rw (zero-both x.action x.user, eqb_swap x.action 0, eqb_swap x.user 0, eqb_swap x.object 0, and_assoc)

-- ---- the lists

module _ (most : ℕ) (ws : List ℕ) (n : ℕ) (k : length ws ≡ width_places) where
  pub widths-none : n < 1 → false ≡ widths_valid most ws n
  unfolding widths_valid
  widths-none h = rw (lt-leb 1 (length (take n ws)) (omega (arith, length-take n ws)), and-false)

  pub widths-many : width_places < n → false ≡ widths_valid most ws n
  unfolding widths_valid
  widths-many h = rw (holds-out eqb 0 ws n width_places k h)

  pub widths-in : 1 ≤ n → n ≤ width_places → widths_valid most ws n ≡ (all (eqb 0) (drop n ws) && widths_sound most 0 (take n ws))
  unfolding widths_valid
  widths-in h g = rw (le-leb 1 (length (take n ws)) (omega (arith, length-take n ws)), holds-in eqb 0 ws n width_places k exact_number.self g)

  -- where all pass, the answer is whether the places behind them are blank
  pub widths-left : 1 ≤ n → n ≤ width_places → widths_sound most 0 (take n ws) ≡ true
      → {b : Bool} → b ≡ all (eqb 0) (take (width_places - n) (drop n ws)) → widths_valid most ws n ≡ b
  widths-left h g e q = rw (widths-in h g, e, and-true, q, whole ws n width_places k)

module _ (s : SideSizes) (ls : List Direct) (n : ℕ) (k : length ls ≡ line_places) where
  pub lines-are
      : lines_valid s ls n ≡ (leb n (length ls) && (all (same_line (direct 0 0)) (drop n ls) && rising (line_in s) line_above None (take n ls)))
  unfolding lines_valid
  lines-are = rw (holds-is same_line (direct 0 0) ls n line_places k exact_line.self, k, and_assoc)

module _ (most total : ℕ) (x : Register) (k : length x.entries ≡ entry_places) where
  pub entries-are
      : register_valid most total x
      ≡ (leb x.count (length x.entries)
      && (all (same_entry no_entry) (drop x.count x.entries) && rising (number_in most total) number_above None (take x.count x.entries)))
  unfolding register_valid same_register register entries_of holds
  entries-are = rw (holds-is same_entry no_entry x.entries x.count entry_places k exact_entry.self, k, and_assoc)

module _ (u : ℕ) (x : Conflicts) (k : length x.entries ≡ conflict_places) where
  pub conflicts-are
      : conflicts_valid u x
      ≡ (leb x.count (length x.entries)
      && (all (same_conflict (conflict 0 0)) (drop x.count x.entries) && rising (conflict_fits u) set_above None (take x.count x.entries)))
  unfolding conflicts_valid same_conflicts conflicts_value conflicts_of holds
  conflicts-are = rw k (holds-few same_conflict (conflict 0 0) x.entries x.count conflict_places k exact_conflict.self _)

module _ (a : ℕ) (s : Sizes) (x : Pairs) (k : length x.entries ≡ pair_places) where
  pub pairs-are
      : pairs_valid a s x
      ≡ (leb x.count (length x.entries)
      && (all (same_pair (pair 0 0 0)) (drop x.count x.entries)
      && rising (pair_fits a s.user.values s.object.values) pair_higher None (take x.count x.entries)))
  unfolding pairs_valid same_pairs pairs_value pairs_of holds
  pairs-are = rw k (holds-few same_pair (pair 0 0 0) x.entries x.count pair_places k exact_pair.self _)

module _ (x : RuleValue) (k : length x.words ≡ word_places) where
  pub rule-out : word_places < x.count → same_rule (rule_value (rule_of x)) x ≡ false
  unfolding same_rule rule_value rule_of
  rule-out h =
      let n = x.count in
      let e : eqb (length (take n x.words)) n ≡ false = ne_eqb _ n (λ q. omega (arith, length-take n x.words)) in
      rw (exact_number.self x.action, length-map, e)

  -- words in digits have the numbers that they are stored as
  pub rule-stored : x.count ≤ word_places → all in_digits (words_in x.count x.words) ≡ true
      → same_rule (rule_value (rule_of x)) x ≡ all (eqb 0) (drop x.count x.words)
  unfolding same_rule rule_value rule_of holds
  rule-stored h d =
      rw (exact_number.self x.action, length-map, numbers-back (take x.count x.words) d)
      (holds-in eqb 0 x.words x.count word_places k exact_number.self h)

module _ (x : RuleValue) (k : length x.words ≡ word_places) where
  pub blank-rule : same_rule no_rule x ≡ (eqb 0 x.action && (eqb 0 x.count && all (eqb 0) x.words))
  unfolding same_rule no_rule same
  blank-rule = rw (← k, same-padded eqb 0 [] x.words (omega arith))
