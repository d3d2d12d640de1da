-- Words that fit sides of fewer than ten values and attributes are in digits.
use Prim.Native.Nat.{ℕ, ◌≤◌}
use mathlib.Core.Path.{◌≡◌, refl}
use mathlib.Core.Bool.{true, ◌&&◌}
use mathlib.Core.List.{List}
use native.Mathlib.Omega.{arith}
use borrow.Author.Tests.{lt-ltb, ltb-true}
use lib.Dec.{leb, ltb}
use lib.ListN.{length}
use Rattle.basis.specs.Lists.{all}
use Rattle.basis.proofs.Bools.{and_left, and_right, and_both}
use Rattle.basis.proofs.Lists.{all-at, all_of}
use Rattle.words.specs.Inner.{in_digits}
use Rattle.words.specs.declared.Word.{Word}
use Rattle.words.specs.declared.Word.TheVariants.{True, False, Holds, Compares, Not, And, Or}
use Rattle.words.specs.declared.Holding.TheVariants.{User, Object}
use Rattle.words.specs.declared.Comparison.TheVariants.{Dominates, Equals}
use Rattle.policy.specs.Limits.{most_values, most_words}
use Rattle.policy.specs.Policy.{Rule}
use Rattle.policy.specs.Checks.{Sizes, both_there, word_fits}
use Rattle.policy.specs.Value.{width_places}
use Rattle.policy.specs.Inner.Sound.{rule_sound}

digit : (v n : ℕ) → n ≤ most_values → ltb v n ≡ true → ltb v 10 ≡ true
digit v n h e = lt-ltb v 10 (omega (arith, ltb-true v n e))

module _ (s : Sizes) (u : s.user.values ≤ most_values) (o : s.object.values ≤ most_values)
    (a : s.user.attributes ≤ width_places) (b : s.object.attributes ≤ width_places) where
  digits-both : (i j : ℕ) → both_there s i j ≡ true → (ltb i 10 && ltb j 10) ≡ true
  digits-both i j e =
      and_both _ _ (digit i _ a (and_left _ _ e)) (digit j _ b (and_right (ltb i s.user.attributes) _ e))

  word_digits : (w : Word) → word_fits s w ≡ true → in_digits w ≡ true
  unfolding in_digits
  word_digits True e = refl
  word_digits False e = refl
  word_digits (Holds (User v)) e = digit v _ u e
  word_digits (Holds (Object v)) e = digit v _ o e
  word_digits (Compares (Dominates i j)) e = digits-both i j e
  word_digits (Compares (Equals i j)) e = digits-both i j e
  word_digits Not e = refl
  word_digits And e = refl
  word_digits Or e = refl

  pub words-digits : (ws : List Word) → all (word_fits s) ws ≡ true → all in_digits ws ≡ true
  words-digits ws e = all_of in_digits ws (λ w m. word_digits w (all-at (word_fits s) ws e w m))

  -- a rule's words
  pub sound-digits : (n : ℕ) (r : Rule) → rule_sound n s r ≡ true → all in_digits r.words ≡ true
  unfolding rule_sound
  sound-digits n r e =
      let e₁ = and_right (leb (length r.words) most_words) _ e in
      words-digits r.words (and_left (all (word_fits s) r.words) _ (and_right (ltb r.action n) _ e₁))
