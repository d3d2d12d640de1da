-- A rule line: its fields behind the action as words, one after the other, and one law for each answer about the rule.
use Rattle.std.specs.Prelude.{Option, Some, None, Result, Ok, Err}
use Prim.Native.Nat.{ℕ, ◌+◌, ◌≤◌, ◌<◌}
use mathlib.Core.Path.{◌≡◌, refl, sym, ap, ◌∙◌}
use mathlib.Core.Bool.{Bool, true, false, cond, not}
use mathlib.Core.List.{List, [], ◌∷◌, ◌++◌, map, append_assoc}
use native.Mathlib.Omega.{arith}
use borrow.Author.Tests.{lt-ltb, le-ltb, lt-leb, le-leb, leb-true, ltb-true}
use lib.Dec.{leb, ltb}
use lib.ListN.{length, drop, set, length-append, length-map, length-drop}
use Rattle.basis.specs.Choice.{check, first_broken}
use Rattle.basis.specs.Lists.{all, padded}
use Rattle.basis.proofs.Bools.{and_left, and_right}
use Rattle.basis.proofs.Padded.{padded-more-map}
use Rattle.text.specs.Parts.{fields, comma}
use Rattle.text.specs.Inner.{Found}
use Rattle.text.specs.declared.kind.Kind.TheVariants.{Rule as RuleKind}
use Rattle.text.specs.declared.kind.Layout.TheVariants.{Formula}
use Rattle.text.proofs.Split.{split-pos}
use Rattle.words.specs.Inner.{in_digits}
use Rattle.words.specs.Word.{parsed, word_in, word_number}
use Rattle.words.specs.declared.Word.{Word}
use Rattle.words.proofs.RoundTrip.{written-parsed}
use Rattle.policy.specs.Limits.{actions, most_words}
use Rattle.policy.specs.Policy.{Rule}
use Rattle.policy.specs.Line.{one_number, count_fits}
use Rattle.policy.specs.Checks.{Sizes, in_range, word_fits, widths_equal, balanced}
use Rattle.policy.specs.Value.{word_places, rule_value, words_in, rule_of}
use Rattle.policy.specs.declared.refusal.Refusal.{Refusal}
use Rattle.policy.specs.declared.refusal.Refusal.TheVariants.{MalformedField, OutOfRange, NotRising, UnequalWidths, UnbalancedFormula}
use Rattle.policy.specs.declared.value.RuleValue.{RuleValue}
use Rattle.policy.proofs.Values.{rule_value_lem}
use Rattle.line.specs.Inner.Head.{between}
use Rattle.line.specs.Inner.Rule.{are_words, rule_from, rule_in, formula_tested, rule_tested, tested, admitted_rule, number_in}
use Rattle.line.proofs.Fields.{last-field, next_field, some-field, ok-err, ok-same, comma-there}

-- ---- the fields behind the action

pub rule-count : (n : ℕ) → count_fits Formula n ≡ true → (3 ≤ n) × (n ≤ 2 + most_words)
unfolding count_fits
rule-count n e = (leb-true 3 n (and_left _ _ e), leb-true n (2 + most_words) (and_right (leb 3 n) _ e))

module _ (l : List ℕ) (c b : ℕ) (f : Found l 0 comma c) (g : Found l (c + 1) comma b) (h : 3 ≤ length (fields l)) where
  first-comma : c ≡ length l → ⊥
  first-comma z = omega (arith, comma-there l c (length (fields l)) f refl h)

  second-comma : b ≡ length l → ⊥
  second-comma z = omega (arith, ap length (next_field l 0 c f first-comma ∙ ap (λ (ps : List (List ℕ)). between l 0 c ∷ ps) (last-field l (c + 1) b g z)))

  pub words-there : b + 1 ≤ length l
  words-there = omega (arith, second-comma, g.high)

  pub words_are : fields (drop (b + 1) l) ≡ drop 2 (fields l)
  words_are = rw (next_field l 0 c f first-comma, next_field l (c + 1) b g second-comma)

-- no more fields than a formula has places for words
pub words-few : (l : List ℕ) → count_fits Formula (length (fields l)) ≡ true → length (drop 2 (fields l)) ≤ word_places
words-few l e = omega (arith, (rule-count (length (fields l)) e).1, length-drop 2 (fields l))

-- ---- words one after the other

abbrev words_of : List (List ℕ) → List Word
words_of fs = map (λ f. word_in (parsed f)) fs

-- what is parsed is in digits
pub word_digits : (f : List ℕ) (x : Option Word) → x ≡ parsed f → (w : Word) → x ≡ Some w → in_digits w ≡ true
word_digits f x p w h = (written-parsed f w (sym p ∙ h)).digits

field-digits : (f : List ℕ) (x : Option Word) → x ≡ parsed f → in_digits (word_in x) ≡ true
unfolding in_digits
field-digits f (Some w) p = word_digits f (Some w) p w refl
field-digits f None p = refl

words-digits : (fs : List (List ℕ)) → all in_digits (words_of fs) ≡ true
unfolding all
words-digits [] = refl
words-digits (f ∷ fs) = rw (field-digits f (parsed f) refl, words-digits fs)

-- n words are done, and those from `at` are left
pub record Sofar (l : List ℕ) (from : ℕ) (numbers : List ℕ) (n at : ℕ) : Type 0 where
  pub within : at ≤ length l
  pub done : List Word
  pub count : n ≡ length done
  pub stored : numbers ≡ padded word_places 0 (map word_number done)
  pub words : words_of (fields (drop from l)) ≡ done ++ words_of (fields (drop at l))
  pub are : are_words (fields (drop from l)) ≡ are_words (fields (drop at l))

pub none_done : (l : List ℕ) (from : ℕ) → from ≤ length l → Sofar l from (padded word_places 0 []) 0 from
none_done l from h = record { within = h; done = []; count = refl; stored = refl; words = refl; are = refl }

module _ {l : List ℕ} {from : ℕ} {numbers : List ℕ} {n at : ℕ} (s : Sofar l from numbers n at) where
  pub room : length (fields (drop from l)) ≤ word_places → n < word_places
  room h =
      let d = s.done in
      let fs = fields (drop at l) in
      let e : length (words_of (fields (drop from l))) ≡ length d + length (words_of fs) = ap length s.words ∙ length-append d (words_of fs) in
      omega (arith, length-map (fields (drop from l)) (λ f. word_in (parsed f)), length-map fs (λ f. word_in (parsed f)), split-pos comma (drop at l), s.count)

  module _ (e : ℕ) (f : Found l at comma e) (x : Option Word) (p : x ≡ parsed (between l at e)) where
    -- the next field is no word
    pub stops : x ≡ None → (a : ℕ) → Err MalformedField ≡ rule_in a (fields (drop from l))
    unfolding rule_in all
    stops h a = rw (s.are, (some-field l at e f).1, sym p ∙ h)

    module _ (w : Word) (h : x ≡ Some w) (v : ℕ) (g : v ≡ word_number w) (k : n < word_places) where
      stored_more : set numbers n v ≡ padded word_places 0 (map word_number (s.done ++ (w ∷ [])))
      stored_more =
          let m : length s.done < word_places = omega (arith, s.count) in
          rw (g, s.stored, s.count) (sym (padded-more-map word_number word_places 0 s.done w m))

      -- it is a word, and not the last
      pub goes_on : (e ≡ length l → ⊥) → Sofar l from (set numbers n v) (n + 1) (e + 1)
      unfolding all
      goes_on z =
          let q = next_field l at e f z in
          record {
            within = omega (arith, z, f.high);
            done = s.done ++ (w ∷ []);
            count = omega (arith, length-append s.done (w ∷ []), s.count);
            stored = stored_more;
            words = s.words ∙ rw (q, sym p ∙ h) (sym (append_assoc s.done (w ∷ []) (words_of (fields (drop (e + 1) l)))));
            are = s.are ∙ (rw (q, sym p ∙ h));
          }

      -- and the last
      pub ends : e ≡ length l → (a : ℕ)
          → Ok (record { action = a; count = n + 1; words = set numbers n v }) ≡ rule_in a (fields (drop from l))
      unfolding rule_in rule_value all
      ends z a =
          let q = last-field l at e f z in
          let ws : words_of (fields (drop from l)) ≡ s.done ++ (w ∷ []) = s.words ∙ (rw (q, sym p ∙ h)) in
          let m : length (s.done ++ (w ∷ [])) ≡ n + 1 = omega (arith, length-append s.done (w ∷ []), s.count) in
          rw (s.are, q, sym p ∙ h, ws, m, ← stored_more)

-- ---- a rule against the lines before it

module _ (y : RuleValue) (form : ℕ) (s : Sizes) where
  -- refusal 6
  module _ (most : ℕ) (v : most ≡ actions form) where
    pub range-words : y.action < most → (r : Bool) → r ≡ all (word_fits s) (words_in y.count y.words)
        → r ≡ in_range RuleKind form s (one_number y.action) (rule_of y).words
    unfolding in_range rule_of
    range-words h r f = f ∙ (rw (lt-ltb y.action (actions form) (omega arith)))

    pub range-action : most ≤ y.action → ltb y.action most ≡ in_range RuleKind form s (one_number y.action) (rule_of y).words
    unfolding in_range
    range-action h = le-ltb y.action most h ∙ (rw (le-ltb y.action (actions form) (omega arith)))

  -- refusals 8 and 9
  module _ (a : Bool) (f : a ≡ all (widths_equal s) (words_in y.count y.words)) where
    pub formula-unequal : a ≡ false → Err UnequalWidths ≡ formula_tested s (rule_of y)
    unfolding rule_of
    formula-unequal h = rw (sym f ∙ h)

    module _ (h : a ≡ true) (b : Bool) (g : b ≡ balanced 0 (words_in y.count y.words)) where
      pub formula-fine : b ≡ true → Ok tt ≡ formula_tested s (rule_of y)
      unfolding rule_of
      formula-fine k = rw (sym f ∙ h, sym g ∙ k)

      pub formula-unbalanced : b ≡ false → Err UnbalancedFormula ≡ formula_tested s (rule_of y)
      unfolding rule_of
      formula-unbalanced k = rw (sym f ∙ h, sym g ∙ k)

  -- refusals 6 to 9 in their order
  module _ (least : ℕ) (r : Bool) (f : r ≡ in_range RuleKind form s (one_number y.action) (rule_of y).words) where
    pub rule-range : r ≡ false → Err OutOfRange ≡ rule_tested least form s (rule_of y)
    unfolding rule_tested rule_of
    rule-range h = rw (sym f ∙ h)

    module _ (h : r ≡ true) where
      pub rule-level : y.action < least → Err NotRising ≡ rule_tested least form s (rule_of y)
      unfolding rule_tested rule_of
      rule-level k = rw (sym f ∙ h, lt-leb least y.action k)

      pub rule-formula : least ≤ y.action → (z : Result (Unit {0}) Refusal) → z ≡ formula_tested s (rule_of y) → z ≡ rule_tested least form s (rule_of y)
      unfolding rule_tested rule_of
      rule-formula k z q = rw (sym f ∙ h, le-leb least y.action k) q

-- ---- the rule of a line

rule-ok : (b : Bool) (x y : RuleValue) → Ok y ≡ cond b (Ok x) (Err MalformedField) → (b ≡ true) × (y ≡ x)
rule-ok true x y e = (refl, ok-same y x e)
rule-ok false x y e = absurd (ok-err y MalformedField e)

rule-err : {A B : Type 0} (b : Bool) (x : A) (y : B) (r : Refusal) → cond b (Ok x) (Err MalformedField) ≡ Err r → (b ≡ false) × (r ≡ MalformedField)
rule-err true x y r e = absurd (ok-err x r e)
rule-err false x y r e = (refl, cc)

module _ (a : ℕ) (fs : List (List ℕ)) (z : Result RuleValue Refusal) (e : z ≡ rule_in a (drop 2 fs)) where
  abbrev from : Rule
  from = rule_from a (drop 2 fs)

  pub rule-malformed : (r : Refusal) → z ≡ Err r → (least form : ℕ) (s : Sizes) → Err r ≡ admitted_rule least form s a fs
  unfolding rule_in admitted_rule
  rule-malformed r q least form s =
      let h = rule-err (are_words (drop 2 fs)) (rule_value from) from r (sym e ∙ q) in
      rw (h.0, h.1)

  module _ (y : RuleValue) (q : z ≡ Ok y) where
    rule-held : (are_words (drop 2 fs) ≡ true) × (y ≡ rule_value from)
    unfolding rule_in
    rule-held = rule-ok (are_words (drop 2 fs)) (rule_value from) y (sym q ∙ e)

    -- it has as many words as the line has fields behind the action
    pub rule-few : count_fits Formula (length fs) ≡ true → y.count ≤ word_places
    unfolding rule_value
    rule-few k = omega (arith, ap (λ (x : RuleValue). x.count) rule-held.1, length-map (drop 2 fs) (λ f. word_in (parsed f)), length-drop 2 fs, (rule-count (length fs) k).1)

    module _ (least form : ℕ) (s : Sizes) (x : Result (Unit {0}) Refusal) (d : x ≡ rule_tested least form s (rule_of y)) where
      rule-tested : tested x y ≡ admitted_rule least form s a fs
      unfolding admitted_rule
      rule-tested =
          let w : rule_of y ≡ from = ap rule_of rule-held.1 ∙ rule_value_lem from (words-digits (drop 2 fs)) in
          rw (rule-held.0, d, w, rule-held.1)

      pub rule-refused : (r : Refusal) → x ≡ Err r → Err r ≡ admitted_rule least form s a fs
      rule-refused r h = ap (λ (o : Result (Unit {0}) Refusal). tested o y) (sym h) ∙ rule-tested

      pub rule-admitted : (u : Unit {0}) → x ≡ Ok u → Ok y ≡ admitted_rule least form s a fs
      rule-admitted u h = ap (λ (o : Result (Unit {0}) Refusal). tested o y) (sym h) ∙ rule-tested

-- ---- the first refusal of a rule's line

module _ (x : RuleValue) where
  abbrev admitted : (w i s e b : Bool) → Result RuleValue Refusal
  admitted w i s e b =
      cond w
      (tested (cond i (cond s (cond e (cond b (Ok tt) (Err UnbalancedFormula)) (Err UnequalWidths)) (Err NotRising)) (Err OutOfRange)) x)
      (Err MalformedField)

  admitted-first-broken : (w i s e b : Bool)
      → number_in (admitted w i s e b) ≡ first_broken (check 5 (not w) ∷ check 6 (not i) ∷ check 7 (not s) ∷ check 8 (not e) ∷ check 9 (not b) ∷ [])
  unfolding first_broken
  admitted-first-broken false i s e b = refl
  admitted-first-broken true false s e b = refl
  admitted-first-broken true true false e b = refl
  admitted-first-broken true true true false b = refl
  admitted-first-broken true true true true false = refl
  admitted-first-broken true true true true true = refl

  record Taken (i s : Bool) (y : RuleValue) : Type 0 where
    range : i ≡ true
    rise : s ≡ true
    value : y ≡ x

  admitted-ok : (w i s e b : Bool) (y : RuleValue) → admitted w i s e b ≡ Ok y → Taken i s y
  admitted-ok false i s e b y h = absurd (ok-err y MalformedField (sym h))
  admitted-ok true false s e b y h = absurd (ok-err y OutOfRange (sym h))
  admitted-ok true true false e b y h = absurd (ok-err y NotRising (sym h))
  admitted-ok true true true false b y h = absurd (ok-err y UnequalWidths (sym h))
  admitted-ok true true true true false y h = absurd (ok-err y UnbalancedFormula (sym h))
  admitted-ok true true true true true y h = record { range = refl; rise = refl; value = ok-same y x (sym h) }

-- a rule in which nothing is broken rises, to an action that the form has
pub record RuleTaken (least form a : ℕ) (fs : List (List ℕ)) (x : RuleValue) : Type 0 where
  pub rises : least ≤ a
  pub action : a < actions form
  pub value : x ≡ rule_value (rule_from a (drop 2 fs))

module _ (least form : ℕ) (s : Sizes) (a : ℕ) (fs : List (List ℕ)) (y : Result RuleValue Refusal) (q : y ≡ admitted_rule least form s a fs) where
  abbrev said : Rule
  said = rule_from a (drop 2 fs)

  pub rule-first-broken : number_in y
      ≡ first_broken (check 5 (not (are_words (drop 2 fs))) ∷ check 6 (not (in_range RuleKind form s (one_number a) said.words)) ∷ check 7 (not (leb least a))
      ∷ check 8 (not (all (widths_equal s) said.words)) ∷ check 9 (not (balanced 0 said.words)) ∷ [])
  unfolding admitted_rule rule_tested
  rule-first-broken =
      ap number_in q
      ∙ admitted-first-broken (rule_value said) (are_words (drop 2 fs)) (in_range RuleKind form s (one_number a) said.words) (leb least a) (all (widths_equal s) said.words)
      (balanced 0 said.words)

  pub rule-taken : (x : RuleValue) → y ≡ Ok x → RuleTaken least form a fs x
  unfolding admitted_rule rule_tested in_range
  rule-taken x h =
      let z = admitted-ok (rule_value said) (are_words (drop 2 fs)) (in_range RuleKind form s (one_number a) said.words) (leb least a) (all (widths_equal s) said.words)
      (balanced 0 said.words) x (sym q ∙ h) in
      record { rises = leb-true least a z.rise; action = ltb-true a (actions form) (and_left _ _ z.range); value = z.value }
