-- What the tests of a sound policy bound: widths and their sum, seniorities, numbers and sets, words; and so that its
-- lists fit their arrays.
use Rattle.std.specs.Prelude.{Option, None, Some}
use Prim.Native.Nat.{ℕ, zero, suc, ◌+◌, ◌≤◌, ◌^◌, ◌<◌}
use mathlib.Core.Path.{◌≡◌, ap}
use mathlib.Core.Bool.{Bool, true}
use mathlib.Core.List.Memᴰ
use mathlib.Core.List.{List, [], ◌∷◌, ◌++◌, Memᴰ}
use mathlib.Core.Logic.{⊎_elim}
use native.Mathlib.Nat.{add_assoc, add-zero, zero-add, le_trans}
use native.Mathlib.Omega.{arith}
use native.Mathlib.Decide.{dec_lt}
use lib.Dec.{eqb, leb, ltb, lit≤}
use lib.ListN.{length}
use borrow.Author.Tests.{leb-true, ltb-true, eqb-true}
use Rattle.basis.specs.Lists.{all, sum}
use Rattle.basis.proofs.Bools.{and_left, and_right, or_cases}
use Rattle.basis.proofs.Lists.{all_of}
use Rattle.seniority.specs.Inner.{From, Ordered}
use Rattle.seniority.specs.declared.Direct.{Direct}
use Rattle.words.specs.Inner.{in_digits}
use Rattle.policy.specs.Limits.{values, actions, most_values, user_numbers, object_numbers, most_lines, most_together}
use Rattle.policy.specs.Policy.{Side, Rule, Policy, total, sets, attribute_of}
use Rattle.policy.specs.Checks.{SideSizes, side_sizes, sizes, width_fits, direct_fits, entry_fits, conflict_fits, pair_fits}
use Rattle.policy.specs.Value.{width_places, entry_places, conflict_places, rule_places, pair_places, line_places}
use Rattle.policy.specs.Inner.Sound.{widths_sound, lists_sound, rising, line_above, number_above, action_above, pair_higher}
use Rattle.policy.specs.declared.value.Entry.{Entry}
use Rattle.policy.specs.declared.value.Conflict.{Conflict}
use Rattle.policy.specs.declared.value.Pair.{Pair}
use Rattle.policy.proofs.Digits.{words-digits}
use Rattle.policy.proofs.Forms.{values-most, actions-most}
use Rattle.policy.proofs.Rising.{head, rising-at, rising-few}
use Rattle.policy.proofs.Parts.{line_fits, number_fits, SideParts, RuleParts, rule-parts, Parts, parts, rule_fits, pair_within}

-- ---- widths

-- a width after others that sum to n
pub record Width (most n w : ℕ) : Type 0 where
  pub some : 1 ≤ w
  pub small : w ≤ most
  pub fits : n + w ≤ most

pub width_fits_lem : (most n w : ℕ) → width_fits most n w ≡ true → Width most n w
unfolding width_fits
width_fits_lem most n w e =
    let e₁ = and_right (leb 1 w) _ e in
    record { some = leb-true 1 w (and_left _ _ e); small = leb-true w most (and_left _ _ e₁); fits = leb-true (n + w) most (and_right (leb w most) _ e₁) }

module _ (most : ℕ) where
  pub width-head : (n w : ℕ) (ws : List ℕ) → widths_sound most n (w ∷ ws) ≡ true → Width most n w
  unfolding widths_sound
  width-head n w ws e = width_fits_lem most n w (and_left _ _ e)

  pub width-tail : (n w : ℕ) (ws : List ℕ) → widths_sound most n (w ∷ ws) ≡ true → widths_sound most (n + w) ws ≡ true
  unfolding widths_sound
  width-tail n w ws e = and_right (width_fits most n w) _ e

  -- one width more
  widths-after : (n : ℕ) (ws : List ℕ) (w : ℕ) → widths_sound most n ws ≡ true → width_fits most (n + sum ws) w ≡ true
      → widths_sound most n (ws ++ (w ∷ [])) ≡ true
  unfolding widths_sound sum
  widths-after n [] w e f = rw (rw add-zero at f)
  widths-after n (v ∷ ws) w e f =
      rw (and_left (width_fits most n v) _ e)
      (widths-after (n + v) ws w (width-tail n v ws e) (rw (← add_assoc n v (sum ws)) at f))

  pub widths-more : (ws : List ℕ) (w : ℕ) → widths_sound most 0 ws ≡ true → width_fits most (sum ws) w ≡ true → widths_sound most 0 (ws ++ (w ∷ [])) ≡ true
  widths-more ws w e f = widths-after 0 ws w e (rw (zero-add (sum ws)) f)

  widths-total : (n : ℕ) (ws : List ℕ) → n ≤ most → widths_sound most n ws ≡ true → n + sum ws ≤ most
  unfolding sum
  widths-total n [] h e = omega arith
  widths-total n (w ∷ ws) h e = omega (arith, widths-total (n + w) ws (width-head n w ws e).fits (width-tail n w ws e))

  widths-few : (n : ℕ) (ws : List ℕ) → widths_sound most n ws ≡ true → length ws ≤ sum ws
  unfolding sum
  widths-few n [] e = omega arith
  widths-few n (w ∷ ws) e = omega (arith, (width-head n w ws e).some, widths-few (n + w) ws (width-tail n w ws e))

  widths-at : (n : ℕ) (ws : List ℕ) → widths_sound most n ws ≡ true → (w : ℕ) → Memᴰ w ws → (1 ≤ w) × (w ≤ most)
  widths-at n [] e w m = absurd (Memᴰ.not-nil m)
  widths-at n (v ∷ ws) e w (Memᴰ.head p) = let h = width-head n v ws e in rw p (h.some, h.small)
  widths-at n (v ∷ ws) e w (Memᴰ.tail m) = widths-at (n + v) ws (width-tail n v ws e) w m

-- ---- seniorities

-- V and J of a line that passes check 6
pub record DirectFit (s : SideSizes) (v j : ℕ) : Type 0 where
  pub value : v < s.values
  pub same : attribute_of s.widths v ≡ attribute_of s.widths j
  pub above : j < v

pub direct-fits : (s : SideSizes) (v j : ℕ) → direct_fits s v j ≡ true → DirectFit s v j
unfolding direct_fits
direct-fits s v j e =
    let e₁ = and_right (ltb v s.values) _ e in
    let e₂ = and_right (ltb j s.values) _ e₁ in
    record {
      value = ltb-true v s.values (and_left _ _ e);
      same = eqb-true _ _ (and_left (eqb (attribute_of s.widths v) (attribute_of s.widths j)) _ e₂);
      above = ltb-true j v (and_right (eqb (attribute_of s.widths v) (attribute_of s.widths j)) _ e₂);
    }

-- the pairs below V: 0 + 1 + .. + (V - 1)
triangle : ℕ → ℕ
triangle zero = 0
triangle (suc n) = triangle n + n

triangle-up : (m n : ℕ) → m ≤ n → triangle m ≤ triangle n
unfolding triangle
triangle-up m zero h = let e : m ≡ 0 = omega arith in rw e (omega arith)
triangle-up m (suc n) h = elim (dec_lt m (suc n)) [ yes l ↦ omega (arith, triangle-up m n (omega arith)) | no l ↦ let e : m ≡ suc n = omega arith in rw e (omega arith) ]

-- as many pairs as there are lines at most
triangle-most : triangle most_values ≤ most_lines
unfolding triangle
triangle-most = lit≤ tt

-- a pair's place among all pairs that go down
rank : Direct → ℕ
rank l = triangle l.senior + l.junior

module _ (s : SideSizes) where
  abbrev fits : Direct → Bool
  fits l = direct_fits s l.senior l.junior

  rank-low : (l : Direct) → fits l ≡ true → rank l < triangle s.values
  unfolding rank triangle
  rank-low l e = let f = direct-fits s l.senior l.junior e in omega (arith, triangle-up (suc l.senior) s.values f.value, f.above)

  rank_up : (m l : Direct) → fits m ≡ true → line_above m l ≡ true → rank m < rank l
  unfolding rank triangle
  rank_up m l e a =
      let f = direct-fits s m.senior m.junior e in
      ⊎_elim
      (λ h. omega (arith, triangle-up (suc m.senior) l.senior (ltb-true m.senior l.senior h), f.above))
      (λ h. let q = eqb-true m.senior l.senior (and_left _ _ h) in
      omega (arith, ap triangle q, ltb-true m.junior l.junior (and_right (eqb m.senior l.senior) _ h)))
      (or_cases (ltb m.senior l.senior) _ a)

  -- pairs that rise: one for each two values at most
  pub directs-few : s.values ≤ most_values → (ls : List Direct) → rising fits line_above None ls ≡ true → length ls ≤ most_lines
  directs-few h ls e =
      le_trans (rising-few fits line_above rank (triangle s.values) rank-low rank_up ls e) (le_trans (triangle-up s.values most_values h) triangle-most)

-- no upper value falls
from-lower : (v w : ℕ) (ls : List Direct) → v ≤ w → From w ls → From v ls
from-lower v w [] h f = f
from-lower v w (l ∷ ls) h f = (omega (arith, f.0), from-lower v w ls h f.1)

above_from : (m l : Direct) → line_above m l ≡ true → m.senior ≤ l.senior
above_from m l a =
    ⊎_elim
    (λ h. omega (arith, ltb-true m.senior l.senior h))
    (λ h. omega (arith, eqb-true m.senior l.senior (and_left _ _ h)))
    (or_cases (ltb m.senior l.senior) _ a)

module _ (s : Side) where
  lines-from : (m : Direct) (ls : List Direct) → rising (line_fits s) line_above (Some m) ls ≡ true → From m.senior ls
  lines-from m [] e = tt
  lines-from m (l ∷ ls) e =
      let h = head (line_fits s) line_above (Some m) l ls e in
      let a = above_from m l h.above-it in
      (a, from-lower m.senior l.senior ls a (lines-from l ls h.rest))

  ordered : (b : Option Direct) (ls : List Direct) → rising (line_fits s) line_above b ls ≡ true → Ordered (total s) ls
  ordered b [] e = tt
  ordered b (l ∷ ls) e =
      let h = head (line_fits s) line_above b l ls e in
      let f = direct-fits (side_sizes s) l.senior l.junior h.fits-it in
      (f.above, f.value, lines-from l ls h.rest, ordered (Some l) ls h.rest)

-- ---- a side

module _ (most : ℕ) (s : Side) (h : SideParts most s) where
  pub total-most : total s ≤ most
  unfolding total
  total-most = omega (arith, widths-total most 0 s.widths (omega arith) h.widths)

  pub attributes-few : length s.widths ≤ total s
  unfolding total
  attributes-few = widths-few most 0 s.widths h.widths

  pub width-bounds : (w : ℕ) → Memᴰ w s.widths → (1 ≤ w) × (w ≤ most)
  width-bounds = widths-at most 0 s.widths h.widths

  pub lines-ordered : Ordered (total s) s.lines
  lines-ordered = ordered s None s.lines h.lines

-- a side of any form
pub total-few : (form : ℕ) (s : Side) → SideParts (values form) s → total s ≤ most_values
total-few form s h = le_trans (total-most (values form) s h) (values-most form)

-- ---- users and objects

module _ (most : ℕ) (s : Side) where
  pub entry-fits : (e : Entry) → number_fits most s e ≡ true → (e.number < most) × (e.set < sets s)
  unfolding entry_fits
  entry-fits e h = (ltb-true e.number most (and_left _ _ h), ltb-true e.set (sets s) (and_right (ltb e.number most) _ h))

  module _ (es : List Entry) (h : rising (number_fits most s) number_above None es ≡ true) where
    pub entry-bounds : (e : Entry) → Memᴰ e es → (e.number < most) × (e.set < sets s)
    entry-bounds e m = entry-fits e (rising-at (number_fits most s) number_above None es h e m)

    pub entries-few : length es ≤ most
    entries-few =
        rising-few (number_fits most s) number_above (λ e. e.number) most (λ e f. (entry-fits e f).0) (λ b e f a. ltb-true b.number e.number a) es h

-- ---- rules

module _ (p : Policy) (rs : List Rule) (h : rising (rule_fits p) action_above None rs ≡ true) where
  pub rule-bounds : (r : Rule) → Memᴰ r rs → RuleParts p r
  rule-bounds r m = rule-parts p r (rising-at (rule_fits p) action_above None rs h r m)

  pub rules-few : length rs ≤ actions p.form
  rules-few =
      rising-few (rule_fits p) action_above (λ r. r.action) (actions p.form) (λ r f. (rule-parts p r f).action)
      (λ b r f a. ltb-true b.action r.action a) rs h

-- the numbers of a rule's words are digits
abbrev pub rule_digits : Rule → Bool
rule_digits r = all in_digits r.words

module _ (p : Policy) (t : Parts p) where
  pub rule-digits : (r : Rule) → RuleParts p r → rule_digits r ≡ true
  rule-digits r q =
      let u = total-few p.form p.user t.user in
      let o = total-few p.form p.object t.object in
      words-digits (sizes p) u o
      (le_trans (attributes-few (values p.form) p.user t.user) u) (le_trans (attributes-few (values p.form) p.object t.object) o)
      r.words q.fit

  pub rules-digits : all rule_digits p.rules ≡ true
  rules-digits =
      all_of rule_digits p.rules
      (λ r m. rule-digits r (rule-parts p r (rising-at (rule_fits p) action_above None p.rules t.rules r m)))

-- ---- conflicts

-- S and K of a line that passes check 6
pub conflict-fits : (u : ℕ) (x : Conflict) → conflict_fits u x ≡ true → (x.set < 2 ^ u) × (x.most ≤ most_together)
unfolding conflict_fits
conflict-fits u x e = (ltb-true _ _ (and_left (ltb x.set (2 ^ u)) _ e), leb-true _ _ (and_right (ltb x.set (2 ^ u)) _ e))

-- ---- pairs

-- A, V and W of a line that passes check 6
pub record PairFit (n u o : ℕ) (x : Pair) : Type 0 where
  pub action : x.action < n
  pub user : x.user < u
  pub object : x.object < o

pub pair_fits_lem : (n u o : ℕ) (x : Pair) → pair_fits n u o x ≡ true → PairFit n u o x
unfolding pair_fits
pair_fits_lem n u o x e =
    let e₁ = and_right (ltb x.action n) _ e in
    record {
      action = ltb-true _ _ (and_left (ltb x.action n) _ e);
      user = ltb-true _ _ (and_left (ltb x.user u) _ e₁);
      object = ltb-true _ _ (and_right (ltb x.user u) _ e₁);
    }

pub pair-bounds : (p : Policy) → Parts p → (x : Pair) → Memᴰ x p.pairs → PairFit (actions p.form) (total p.user) (total p.object) x
pair-bounds p t x m = pair_fits_lem (actions p.form) (total p.user) (total p.object) x (rising-at (pair_within p) pair_higher None p.pairs t.pairs x m)

-- ---- the lists fit their arrays

pub record WithinSide (s : Side) : Type 0 where
  pub widths : length s.widths ≤ width_places
  pub lines : length s.lines ≤ line_places

pub record Within (p : Policy) : Type 0 where
  pub user : WithinSide p.user
  pub object : WithinSide p.object
  pub users : length p.users ≤ entry_places
  pub objects : length p.objects ≤ entry_places
  pub conflicts : length p.conflicts ≤ conflict_places
  pub rules : length p.rules ≤ rule_places
  pub pairs : length p.pairs ≤ pair_places

side-within : (form : ℕ) (s : Side) → SideParts (values form) s → WithinSide s
side-within form s h =
    record {
      widths = le_trans (attributes-few (values form) s h) (total-few form s h);
      lines = directs-few (side_sizes s) (total-few form s h) s.lines h.lines;
    }

pub parts_within : (p : Policy) → Parts p → Within p
parts_within p t =
    record {
      user = side-within p.form p.user t.user;
      object = side-within p.form p.object t.object;
      users = le_trans (entries-few user_numbers p.user p.users t.users) (lit≤ tt);
      objects = entries-few object_numbers p.object p.objects t.objects;
      conflicts = t.few-conflicts;
      rules = le_trans (rules-few p p.rules t.rules) (actions-most p.form);
      pairs = t.few-pairs;
    }

pub sound-within : (p : Policy) → lists_sound p ≡ true → Within p
sound-within p e = parts_within p (parts p e)
