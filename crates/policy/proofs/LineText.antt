-- The text of a line: it is parted into the line's fields and holds no line feed.
use Prim.Native.Nat.{ℕ}
use mathlib.Core.Path.{◌≡◌, refl}
use mathlib.Core.Bool.{Bool, true, false, not}
use mathlib.Core.List.{List, [], ◌∷◌, ◌++◌, map}
use native.Mathlib.Omega.{arith}
use lib.Dec.{eqb}
use Rattle.basis.specs.Lists.{all}
use Rattle.basis.proofs.Bools.{and_left, and_right}
use Rattle.text.specs.Number.{decimal}
use Rattle.text.specs.Parts.{comma, line_feed, join, fields}
use Rattle.text.specs.Kind.{word_of, layout_of}
use Rattle.text.specs.declared.kind.Kind.{Kind}
use Rattle.text.specs.declared.kind.Layout.{Layout}
use Rattle.text.specs.declared.kind.Layout.TheVariants.{Bare, One, Two, Three, Formula}
use Rattle.text.specs.declared.number.Numbers.{Numbers}
use Rattle.text.proofs.RoundTrip.{decimal-lacks-comma, decimal-lacks-feed, lacks, split-join, word_lacks_comma, word_lacks_feed}
use Rattle.words.specs.Word.{written}
use Rattle.words.specs.declared.Word.{Word}
use Rattle.words.proofs.RoundTrip.{written-lacks-comma, written-lacks-feed}
use Rattle.policy.specs.Line.{Line}
use Rattle.policy.specs.Text.{later_fields, fields_of, line_text}

-- a test that kind words, numbers and words pass is passed by each field
module _ (f : List ℕ → Bool) (hk : (k : Kind) → f (word_of k) ≡ true) (hn : (n : ℕ) → f (decimal n) ≡ true) (hw : (w : Word) → f (written w) ≡ true) where
  each_word : (ws : List Word) → all f (map written ws) ≡ true
  unfolding all
  each_word [] = refl
  each_word (w ∷ ws) = rw (hw w) (each_word ws)

  each-later : (x : Layout) (n : Numbers) (ws : List Word) → all f (later_fields x n ws) ≡ true
  unfolding all later_fields
  each-later Bare n ws = refl
  each-later One n ws = rw (hn n.first)
  each-later Two n ws = rw (hn n.first, hn n.second)
  each-later Three n ws = rw (hn n.first, hn n.second, hn n.third)
  each-later Formula n ws = rw (hn n.first) (each_word ws)

  each-field : (l : Line) → all f (fields_of l) ≡ true
  unfolding all
  each-field l = rw (hk l.kind) (each-later (layout_of l.kind) l.numbers l.words)

-- the text is parted into the fields
pub fields-text : (l : Line) → fields (line_text l) ≡ fields_of l
unfolding line_text
fields-text l = split-join comma (fields_of l) (omega arith) (each-field (lacks comma) word_lacks_comma decimal-lacks-comma written-lacks-comma l)

-- it holds no line feed
lacks-append : (b : ℕ) (xs ys : List ℕ) → lacks b xs ≡ true → lacks b ys ≡ true → lacks b (xs ++ ys) ≡ true
unfolding all
lacks-append b [] ys h g = g
lacks-append b (x ∷ xs) ys h g = rw (and_left (not (eqb x b)) _ h) (lacks-append b xs ys (and_right (not (eqb x b)) _ h) g)

lacks-join : (b c : ℕ) (fs : List (List ℕ)) → eqb c b ≡ false → all (lacks b) fs ≡ true → lacks b (join c fs) ≡ true
unfolding all join
lacks-join b c [] e h = refl
lacks-join b c (f ∷ []) e h = and_left _ _ h
lacks-join b c (f ∷ g ∷ fs) e h =
    lacks-append b f (c ∷ join c (g ∷ fs)) (and_left _ _ h) (rw e (lacks-join b c (g ∷ fs) e (and_right (lacks b f) _ h)))

pub text-lacks-feed : (l : Line) → lacks line_feed (line_text l) ≡ true
unfolding line_text
text-lacks-feed l = lacks-join line_feed comma (fields_of l) refl (each-field (lacks line_feed) word_lacks_feed decimal-lacks-feed written-lacks-feed l)
