-- A line and its fields, both ways: accepted fields are those that their line is written as, and a line is read back
-- from its own.
use Rattle.std.specs.Prelude.{Option, Some, None}
use Prim.Native.Nat.{ℕ, zero, suc, ◌+◌, ◌≤◌}
use mathlib.Core.Path.{◌≡◌, refl, ◌∙◌}
use mathlib.Core.Bool.{true}
use mathlib.Core.List.{List, [], ◌∷◌, map}
use native.Mathlib.Omega.{arith}
use lib.ListN.{length, drop, length-map, drop_of_length-le}
use lib.Seq.{drop-cons}
use borrow.Author.Tests.{eqb-true, leb-true, le-leb}
use Rattle.basis.specs.Lists.{all}
use Rattle.basis.proofs.Bools.{and_left, and_right}
use Rattle.text.specs.Number.{is_number, decimal}
use Rattle.text.specs.Kind.{word_of, layout_of}
use Rattle.text.specs.declared.kind.Kind.{Kind}
use Rattle.text.specs.declared.kind.Layout.{Layout}
use Rattle.text.specs.declared.kind.Layout.TheVariants.{Bare, One, Two, Three, Formula}
use Rattle.text.specs.declared.number.Numbers.{Numbers}
use Rattle.text.proofs.RoundTrip.{decimal-number, decimal-value, value-decimal}
use Rattle.words.specs.Word.{parsed, is_word, word_in, written}
use Rattle.words.specs.Inner.{in_digits}
use Rattle.words.specs.declared.Word.{Word}
use Rattle.words.proofs.RoundTrip.{parsed-written, written-parsed}
use Rattle.policy.specs.Limits.{most_words}
use Rattle.policy.specs.Line.{Line, no_numbers, one_number, two_numbers, three_numbers, plain, field_at, number_at, count_fits, form_fits, numbers_of, words_of}
use Rattle.policy.specs.Text.{later_fields, fields_of}
use Rattle.policy.proofs.Shorts.{Shorts}

-- ---- from fields to a line and back to the fields

-- n fields from place i on as the numbers that they say are written
abbrev rewritten : ℕ → ℕ → List (List ℕ) → List (List ℕ)
rewritten zero i fs = []
rewritten (suc n) i fs = decimal (number_at fs i) ∷ rewritten n (suc i) fs

numbers-later : (n i : ℕ) (fs : List (List ℕ)) → length fs ≡ i + n → all is_number (drop i fs) ≡ true → drop i fs ≡ rewritten n i fs
unfolding all
numbers-later zero i fs e h = let l : length fs ≤ i = omega (arith, e) in drop_of_length-le fs l
numbers-later (suc n) i fs e h =
    let d = drop-cons fs i [] (omega (arith, e)) in
    let g = rw d at h in
    let r = numbers-later n (suc i) fs (omega (arith, e)) (and_right (is_number (field_at fs i)) _ g) in
    d ∙ rw (r, value-decimal (field_at fs i) (and_left _ _ g))

is_word_lem : (f : List ℕ) (x : Option Word) → parsed f ≡ x → is_word x ≡ true → written (word_in x) ≡ f
is_word_lem f (Some w) q e = (written-parsed f w q).writes
is_word_lem f None q e = let z : ◌≡◌ {A = ℕ} 0 1 = cc in absurd (omega arith)

words-later : (fs : List (List ℕ)) → all (λ f. is_word (parsed f)) fs ≡ true → map written (map (λ f. word_in (parsed f)) fs) ≡ fs
unfolding all
words-later [] h = refl
words-later (f ∷ fs) h =
    rw (is_word_lem f (parsed f) refl (and_left _ _ h), words-later fs (and_right (is_word (parsed f)) _ h))

formula-later : (fs : List (List ℕ)) → 3 ≤ length fs → form_fits Formula fs ≡ true
    → drop 1 fs ≡ decimal (number_at fs 1) ∷ map written (map (λ f. word_in (parsed f)) (drop 2 fs))
unfolding form_fits
formula-later [] e h = absurd (omega arith)
formula-later (a ∷ []) e h = absurd (omega arith)
formula-later (a ∷ b ∷ fs) e h =
    rw (value-decimal b (and_left _ _ h), words-later fs (and_right (is_number b) _ h))

pub later-fields : (x : Layout) (fs : List (List ℕ)) → count_fits x (length fs) ≡ true → form_fits x fs ≡ true
    → drop 1 fs ≡ later_fields x (numbers_of x fs) (words_of x fs)
unfolding count_fits form_fits numbers_of words_of later_fields
later-fields Bare fs c f = numbers-later 0 1 fs (eqb-true (length fs) 1 c) f
later-fields One fs c f = numbers-later 1 1 fs (eqb-true (length fs) 2 c) f
later-fields Two fs c f = numbers-later 2 1 fs (eqb-true (length fs) 3 c) f
later-fields Three fs c f = numbers-later 3 1 fs (eqb-true (length fs) 4 c) f
later-fields Formula fs c f = formula-later fs (leb-true 3 (length fs) (and_left _ _ c)) f

-- ---- from a line to its fields and back to the line

-- fields are in the form of a layout and say these numbers and words
pub record Says (x : Layout) (fs : List (List ℕ)) (n : Numbers) (ws : List Word) : Type 0 where
  pub count : count_fits x (length fs) ≡ true
  pub form : form_fits x fs ≡ true
  pub numbers : numbers_of x fs ≡ n
  pub words : words_of x fs ≡ ws

-- a line is read back from its fields
abbrev pub Back : Line → Type 0
Back l = Says (layout_of l.kind) (fields_of l) l.numbers l.words

-- the numbers that a layout has places for
abbrev kept : Layout → Numbers → Numbers
kept Bare n = no_numbers
kept One n = one_number n.first
kept Two n = two_numbers n.first n.second
kept Three n = n
kept Formula n = one_number n.first

-- the words that a layout has places for
abbrev Worded : Layout → List Word → Type 0
Worded Bare ws = ws ≡ []
Worded One ws = ws ≡ []
Worded Two ws = ws ≡ []
Worded Three ws = ws ≡ []
Worded Formula ws = (1 ≤ length ws) × (length ws ≤ most_words) × (all in_digits ws ≡ true)

pub record Made (x : Layout) (n : Numbers) (ws : List Word) : Type 0 where
  pub short : Shorts n
  pub places : kept x n ≡ n
  pub worded : Worded x ws

words-form : (ws : List Word) → all in_digits ws ≡ true → all (λ f. is_word (parsed f)) (map written ws) ≡ true
unfolding all
words-form [] h = refl
words-form (w ∷ ws) h = rw (parsed-written w (and_left _ _ h)) (words-form ws (and_right (in_digits w) _ h))

words-line : (ws : List Word) → all in_digits ws ≡ true → map (λ f. word_in (parsed f)) (map written ws) ≡ ws
unfolding all
words-line [] h = refl
words-line (w ∷ ws) h = rw (parsed-written w (and_left _ _ h), words-line ws (and_right (in_digits w) _ h))

module _ (word : List ℕ) (n : Numbers) (ws : List Word) where
  fields-say : (x : Layout) → Made x n ws → Says x (word ∷ later_fields x n ws) n ws
  unfolding all later_fields count_fits form_fits numbers_of words_of
  fields-say Bare m = record { count = refl; form = refl; numbers = m.places; words = rw m.worded }
  fields-say One m =
      record {
        count = refl;
        form = rw (decimal-number n.first m.short.first);
        numbers = rw (decimal-value n.first) m.places;
        words = rw m.worded;
      }
  fields-say Two m =
      record {
        count = refl;
        form = rw (decimal-number n.first m.short.first, decimal-number n.second m.short.second);
        numbers = rw (decimal-value n.first, decimal-value n.second) m.places;
        words = rw m.worded;
      }
  fields-say Three m =
      record {
        count = refl;
        form = rw (decimal-number n.first m.short.first, decimal-number n.second m.short.second, decimal-number n.third m.short.third);
        numbers = rw (decimal-value n.first, decimal-value n.second, decimal-value n.third);
        words = rw m.worded;
      }
  fields-say Formula m =
      let l = m.worded.0 in
      let g = m.worded.1 in
      record {
        count = rw (length-map ws written, le-leb 3 (suc (suc (length ws))) (omega arith), le-leb (suc (suc (length ws))) (2 + most_words) (omega arith));
        form = rw (decimal-number n.first m.short.first, words-form ws m.worded.2);
        numbers = rw (decimal-value n.first) m.places;
        words = words-line ws m.worded.2;
      }

pub line-back : (l : Line) → Made (layout_of l.kind) l.numbers l.words → Back l
line-back l m = fields-say (word_of l.kind) l.numbers l.words (layout_of l.kind) m

-- a line of one number, of two and of three
pub one-back : (k : Kind) → layout_of k ≡ One → (n : ℕ) → Shorts (one_number n) → Back (plain k (one_number n))
one-back k e n h = line-back (plain k (one_number n)) (rw e (record { short = h; places = refl; worded = refl }))

pub two_back : (k : Kind) → layout_of k ≡ Two → (n m : ℕ) → Shorts (two_numbers n m) → Back (plain k (two_numbers n m))
two_back k e n m h = line-back (plain k (two_numbers n m)) (rw e (record { short = h; places = refl; worded = refl }))

pub three_back : (k : Kind) → layout_of k ≡ Three → (n m l : ℕ) → Shorts (three_numbers n m l) → Back (plain k (three_numbers n m l))
three_back k e n m l h = line-back (plain k (three_numbers n m l)) (rw e (record { short = h; places = refl; worded = refl }))
