-- The text of a sound policy fits the limit of a text: so many lines of each kind at most, each of so many bytes at
-- most.
use Rattle.std.specs.Prelude.{None}
use Prim.Native.Nat.{ℕ, suc, ◌+◌, ◌*◌, ◌≤◌, ◌<◌}
use mathlib.Core.Path.{◌≡◌, ◌∙◌}
use mathlib.Core.Bool.{Bool, true}
use mathlib.Core.List.{List, [], ◌∷◌, ◌++◌, map, Memᴰ}
use native.Mathlib.Nat.{le_trans, mul-le-mul_right}
use native.Mathlib.Omega.{arith}
use lib.Dec.{ltb, lit≤}
use lib.ListN.{length, length-append, length-map}
use borrow.Author.Tests.{lt-ltb, ltb-true}
use Rattle.basis.specs.Lists.{all, sum}
use Rattle.basis.proofs.Bools.{and_left, and_right}
use Rattle.basis.proofs.Lists.{all_of, all_map}
use Rattle.seniority.specs.declared.Direct.{Direct}
use Rattle.text.specs.Number.{most_digits, decimal}
use Rattle.text.specs.Parts.{comma, line_feed, join, text_of as linesText}
use Rattle.text.specs.Kind.{word_of, kinds, layout_of}
use Rattle.text.specs.declared.kind.Kind.{Kind}
use Rattle.text.specs.declared.kind.Kind.TheVariants.{Policy as PolicyKind, Uattr, Oattr, Usen, Osen, User, Object, Conflict as ConflictKind, Rule as RuleKind, Pair as PairKind, End}
use Rattle.text.specs.declared.kind.Layout.{Layout}
use Rattle.text.specs.declared.kind.Layout.TheVariants.{Bare, One, Two, Three, Formula}
use Rattle.text.specs.declared.number.Numbers.{Numbers}
use Rattle.text.proofs.RoundTrip.{decimal-short}
use Rattle.words.specs.Word.{written}
use Rattle.words.specs.declared.Word.{Word}
use Rattle.words.proofs.RoundTrip.{most_letters, written-short}
use Rattle.policy.specs.Limits.{text_bytes, is_form, values, most_values, user_numbers, object_numbers, most_words, most_actions, most_lines, most_conflicts, most_pairs}
use Rattle.policy.specs.Policy.{Side, Rule, Policy}
use Rattle.policy.specs.Line.{Line, no_numbers, one_number, two_numbers, three_numbers, plain, rule_line}
use Rattle.policy.specs.Text.{flat, width_lines, direct_lines, entry_lines, conflict_lines, rule_lines, pair_lines, later_fields, line_text, text_of}
use Rattle.policy.specs.Inner.Sound.{rising, line_above, number_above, pair_higher, set_above}
use Rattle.policy.specs.declared.value.Entry.{Entry}
use Rattle.policy.specs.declared.value.Conflict.{Conflict}
use Rattle.policy.specs.declared.value.Pair.{Pair}
use Rattle.policy.proofs.Forms.{form-few}
use Rattle.policy.proofs.Parts.{line_fits, number_fits, conflict_within, pair_within, SideParts, Parts}
use Rattle.policy.proofs.Rising.{rising-at}
use Rattle.policy.proofs.Bounds.{width-bounds, entries-few, rule-bounds, parts_within}
use Rattle.policy.proofs.Groups.{groups, lines_from, lines-from}
use Rattle.policy.proofs.Shorts.{Short, Shorts, no_short, one-short, width-short, action-short, direct-short, entry-short, conflict-short, pair-short}

-- ---- the bytes of a line

-- a number and a word, each with the comma before it
number_bytes : ℕ
number_bytes = suc most_digits

word_bytes : ℕ
word_bytes = suc most_letters

-- what stands behind the word of a kind
later_bytes : Layout → ℕ
later_bytes Bare = 0
later_bytes One = number_bytes
later_bytes Two = number_bytes + number_bytes
later_bytes Three = number_bytes + number_bytes + number_bytes
later_bytes Formula = number_bytes + most_words * word_bytes

-- a line of a kind, with its line feed
line_bytes : Kind → ℕ
line_bytes k = suc (length (word_of k) + later_bytes (layout_of k))

-- fields, each with the comma before it
field_bytes : List (List ℕ) → ℕ
field_bytes [] = 0
field_bytes (f ∷ fs) = suc (length f) + field_bytes fs

join-bytes : (f : List ℕ) (fs : List (List ℕ)) → length (join comma (f ∷ fs)) ≡ length f + field_bytes fs
unfolding join field_bytes
join-bytes f [] = omega arith
join-bytes f (g ∷ fs) = omega (arith, length-append f (comma ∷ join comma (g ∷ fs)), join-bytes g fs)

words-bytes : (ws : List Word) → field_bytes (map written ws) ≤ length ws * word_bytes
unfolding field_bytes word_bytes
words-bytes [] = omega arith
words-bytes (w ∷ ws) = omega (arith, written-short w, words-bytes ws)

number-bytes : (n : ℕ) → Short n → suc (length (decimal n)) ≤ number_bytes
unfolding number_bytes
number-bytes n h = omega (arith, decimal-short most_digits n (lit≤ tt) h)

module _ (n : Numbers) (ws : List Word) (h : Shorts n) (g : length ws ≤ most_words) where
  later-bytes : (x : Layout) → field_bytes (later_fields x n ws) ≤ later_bytes x
  unfolding later_fields field_bytes later_bytes word_bytes
  later-bytes Bare = omega arith
  later-bytes One = omega (arith, number-bytes n.first h.first)
  later-bytes Two = omega (arith, number-bytes n.first h.first, number-bytes n.second h.second)
  later-bytes Three =
      omega (arith, number-bytes n.first h.first, number-bytes n.second h.second, number-bytes n.third h.third)
  later-bytes Formula = omega (arith, number-bytes n.first h.first, words-bytes ws)

line-bytes : (l : Line) → Shorts l.numbers → length l.words ≤ most_words → length (line_text l) < line_bytes l.kind
unfolding line_text line_bytes
line-bytes l h g =
    let fs = later_fields (layout_of l.kind) l.numbers l.words in
    omega (arith, join-bytes (word_of l.kind) fs, later-bytes l.numbers l.words h g (layout_of l.kind))

-- ---- the lines of a kind

-- the most of them
most_of : Kind → ℕ
most_of PolicyKind = 1
most_of Uattr = most_values
most_of Oattr = most_values
most_of Usen = most_lines
most_of Osen = most_lines
most_of User = user_numbers
most_of Object = object_numbers
most_of ConflictKind = most_conflicts
most_of RuleKind = most_actions
most_of PairKind = most_pairs
most_of End = 1

kind_bytes : Kind → ℕ
kind_bytes k = most_of k * line_bytes k

-- the most bytes of a text: the margin to the limit
all-bytes : sum (map kind_bytes kinds) ≤ text_bytes
unfolding sum kind_bytes most_of line_bytes later_bytes number_bytes word_bytes
all-bytes = lit≤ tt

-- the bytes of some lines, each with its line feed
size : List Line → ℕ
size ls = length (linesText (map line_text ls))

abbrev small : Kind → Line → Bool
small k l = ltb (length (line_text l)) (line_bytes k)

record Group (k : Kind) (ls : List Line) : Type 0 where
  few : length ls ≤ most_of k
  each : all (small k) ls ≡ true

-- lines of a list
group : {A : Type 0} (k : Kind) (f : A → Line) (xs : List A) → length xs ≤ most_of k
    → ((x : A) → Memᴰ x xs → length (line_text (f x)) < line_bytes k) → Group k (map f xs)
group k f xs h g =
    record {
      few = rw (length-map xs f) h;
      each = all_map (small k) f xs ∙ all_of (λ x. small k (f x)) xs (λ x m. lt-ltb (length (line_text (f x))) (line_bytes k) (g x m));
    }

size-lines : (k : Kind) (ls more : List Line) → all (small k) ls ≡ true → size (ls ++ more) ≤ length ls * line_bytes k + size more
unfolding size linesText all
size-lines k [] more h = omega arith
size-lines k (l ∷ ls) more h =
    let t = map line_text (ls ++ more) in
    omega (
      arith,
      length-append (line_text l) (line_feed ∷ linesText t),
      ltb-true (length (line_text l)) (line_bytes k) (and_left _ _ h),
      size-lines k ls more (and_right (small k l) _ h),
    )

size-group : (k : Kind) (ls more : List Line) → Group k ls → size (ls ++ more) ≤ kind_bytes k + size more
unfolding kind_bytes
size-group k ls more g =
    omega (arith, size-lines k ls more g.each, mul-le-mul_right (line_bytes k) g.few)

-- ---- the lines of all kinds

data Groups : List Kind → List (List Line) → Type 0 where
  none_left : Groups [] []
  then : {k : Kind} {ks : List Kind} {g : List Line} {gs : List (List Line)} → Group k g → Groups ks gs → Groups (k ∷ ks) (g ∷ gs)

size-groups : {ks : List Kind} {gs : List (List Line)} → Groups ks gs → size (flat gs) ≤ sum (map kind_bytes ks)
unfolding size linesText sum
size-groups none_left = omega arith
size-groups (then {k} {ks} {g} {gs} h hs) = omega (arith, size-group k g (flat gs) h, size-groups hs)

module _ (p : Policy) (t : Parts p) (form : is_form p.form ≡ true) where
  widths-group : (k : Kind) (s : Side) → SideParts (values p.form) s → length s.widths ≤ most_of k → Group k (width_lines k s)
  widths-group k s h l =
      group k (λ w. plain k (one_number w)) s.widths l
      (λ w m. line-bytes (plain k (one_number w)) (width-short p.form w (width-bounds (values p.form) s h w m).1) (omega arith))

  directs-group : (k : Kind) (s : Side) → SideParts (values p.form) s → length s.lines ≤ most_of k → Group k (direct_lines k s)
  directs-group k s h l =
      group k (λ (d : Direct). plain k (two_numbers d.senior d.junior)) s.lines l
      (λ d m. line-bytes (plain k (two_numbers d.senior d.junior)) (direct-short p.form s h d (rising-at (line_fits s) line_above None s.lines h.lines d m)) (omega arith))

  entries-group : (k : Kind) (most : ℕ) → most ≤ object_numbers → most ≤ most_of k → (s : Side) → SideParts (values p.form) s
      → (es : List Entry) → rising (number_fits most s) number_above None es ≡ true → Group k (entry_lines k es)
  entries-group k most g l s h es e =
      group k (λ (x : Entry). plain k (two_numbers x.number x.set)) es (le_trans (entries-few most s es e) l)
      (λ x m. line-bytes (plain k (two_numbers x.number x.set)) (entry-short p.form s h most g x (rising-at (number_fits most s) number_above None es e x m)) (omega arith))

  conflicts-group : Group ConflictKind (conflict_lines p.conflicts)
  unfolding most_of
  conflicts-group =
      group ConflictKind (λ (x : Conflict). plain ConflictKind (two_numbers x.set x.most)) p.conflicts t.few-conflicts
      (λ x m. line-bytes (plain ConflictKind (two_numbers x.set x.most)) (conflict-short p.form p.user t.user x (rising-at (conflict_within p.user) set_above None p.conflicts t.conflicts x m)) (omega arith))

  rules-group : Group RuleKind (rule_lines p.rules)
  unfolding most_of
  rules-group =
      group RuleKind (λ (r : Rule). rule_line r.action r.words) p.rules (parts_within p t).rules
      (λ r m. let q = rule-bounds p p.rules t.rules r m in line-bytes (rule_line r.action r.words) (action-short p.form r.action q.action) q.few)

  pairs-group : Group PairKind (pair_lines p.pairs)
  unfolding most_of
  pairs-group =
      group PairKind (λ (x : Pair). plain PairKind (three_numbers x.action x.user x.object)) p.pairs t.few-pairs
      (λ x m. line-bytes (plain PairKind (three_numbers x.action x.user x.object)) (pair-short p t x (rising-at (pair_within p) pair_higher None p.pairs t.pairs x m)) (omega arith))

  one-group : (k : Kind) (n : Numbers) → 1 ≤ most_of k → Shorts n → Group k (plain k n ∷ [])
  unfolding all
  one-group k n h g = record { few = h; each = rw (lt-ltb (length (line_text (plain k n))) (line_bytes k) (line-bytes (plain k n) g (omega arith))) }

  all-groups : Groups kinds (groups p)
  unfolding groups most_of
  all-groups =
      let w = parts_within p t in
      then (one-group PolicyKind (one_number p.form) (lit≤ tt) (one-short p.form (form-few p.form form)))
      (then (widths-group Uattr p.user t.user w.user.widths)
      (then (widths-group Oattr p.object t.object w.object.widths)
      (then (directs-group Usen p.user t.user w.user.lines)
      (then (directs-group Osen p.object t.object w.object.lines)
      (then (entries-group User user_numbers (lit≤ tt) (lit≤ tt) p.user t.user p.users t.users)
      (then (entries-group Object object_numbers (lit≤ tt) (lit≤ tt) p.object t.object p.objects t.objects)
      (then conflicts-group (then rules-group (then pairs-group (then (one-group End no_numbers (lit≤ tt) no_short) none_left))))))))))

  pub parts-short : length (text_of p) ≤ text_bytes
  unfolding size text_of lines_from
  parts-short = rw (lines-from p) (le_trans (size-groups all-groups) all-bytes)
