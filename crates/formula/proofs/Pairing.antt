-- Pairs: going from one to the next, the vectors of all actions gain what each pair grants; those of an action, picked
-- out.
use Prim.Native.Nat.{ℕ, zero, suc, ◌+◌, ◌^◌, ◌≤◌, ◌<◌}
use mathlib.Core.Path.{◌≡◌, refl, sym, ap, ◌∙◌}
use mathlib.Core.Bool.{Bool, true, false, ◌&&◌, ◌||◌, and-false, or-false, or_assoc, false≢true}
use mathlib.Core.List.{List, [], ◌∷◌, Memᴰ}
use mathlib.Core.Logic.{⊎_elim}
use native.Mathlib.Nat.{lt_of_lt_of_le}
use native.Mathlib.Decide.{ℕ_discrete}
use native.Mathlib.Numerals.{add-one}
use native.Mathlib.Omega.{arith}
use lib.Bits.{bit_or}
use lib.Dec.{eqb}
use lib.ListN.{length, get_or, set, take, drop, drop_of_length-le, replicate, get_or-replicate}
use borrow.Author.Tests.{eq-eqb, ne_eqb, eqb-true}
use Rattle.basis.specs.Choice.{given}
use Rattle.basis.specs.Lists.{any}
use Rattle.basis.specs.Numbers.{every}
use Rattle.basis.proofs.Bools.{and_left, and_right, and_both, or_cases, or_left, or_right, never, fails, both_ways}
use Rattle.basis.proofs.Lists.{get_or-in, any_at, any_of}
use Rattle.basis.proofs.Numbers.{every-at}
use Rattle.basis.proofs.Walk.{rest-next, any-end}
use Rattle.std.specs.List.{list_any}
use Rattle.sets.specs.Set.{has}
use Rattle.sets.proofs.Laws.{has-union, has-zero, has_one}
use Rattle.words.specs.declared.Holding.TheVariants.{User, Object}
use Rattle.policy.specs.Limits.{actions, most_actions, most_values}
use Rattle.policy.specs.Policy.{Policy, pair, formula_in}
use Rattle.policy.specs.Value.{word_places, rules_of, pairs_of}
use Rattle.policy.proofs.Forms.{actions-most}
use Rattle.policy.specs.declared.value.Pair.{Pair}
use Rattle.policy.specs.declared.value.Pairs.{Pairs}
use Rattle.formula.specs.Truth.{Sets, holds, truth, formula_true, pair_holds, pair_true, grants}
use Rattle.formula.specs.Inner.Fits.{PairFits, PairsFit}
use Rattle.formula.specs.Inner.Grant.{rule_true, some, partner_held, paired_at, Paired, GrantOf, GrantsOf}
use Rattle.formula.specs.Inner.Lane.{in_block, Placed}
use Rattle.formula.specs.declared.grant.Grant.{Grant}
use Rattle.formula.specs.declared.grant.Grants.{Grants}
use Rattle.formula.proofs.Placing.{placed_seen}
use Rattle.formula.proofs.Granting.{set-seen, outcome-all, outcome-past}

-- what holds of each pair before the count, at a place
pub pair-at : (n : ℕ) (xs : Pairs) → PairsFit n xs → let ys = take xs.count xs.entries in
    (i : ℕ) → i < length ys → PairFits n (get_or ys i (pair 0 0 0))
pair-at n xs x i h = x.each _ (get_or-in (take xs.count xs.entries) i (pair 0 0 0) h)

-- ---- pairs

-- a test at some of the pairs
pub any-list : (f : Pair → Bool) (xs : List Pair) → list_any f xs ≡ any f xs
unfolding any
any-list f [] = refl
any-list f (x ∷ xs) = ap (λ b. f x || b) (any-list f xs)

-- bit k of a number, or a test at one of the pairs from place i on
abbrev pub OrLater : (Pair → Bool) → List Pair → ℕ → ℕ → ℕ → Bool
OrLater f xs i x k = has x k || any f (drop i xs)

module _ (f : Pair → Bool) (xs : List Pair) (i : ℕ) (h : i < length xs) where
  abbrev here : Pair
  here = get_or xs i (pair 0 0 0)

  -- the pair at place i is tested in one more number
  pub later_more : (x y k : ℕ) → has y k ≡ (has x k || f here) → OrLater f xs (i + 1) y k ≡ OrLater f xs i x k
  unfolding any
  later_more x y k e = rw (rest-next (pair 0 0 0) xs i h, e) (or_assoc (has x k) (f here) (any f (drop (i + 1) xs)))

  -- or the test does not pass there
  pub later-passed : (x k : ℕ) → f here ≡ false → OrLater f xs (i + 1) x k ≡ OrLater f xs i x k
  unfolding any
  later-passed x k e = rw (rest-next (pair 0 0 0) xs i h, e)

pub later-none : (f : Pair → Bool) (xs : List Pair) (i x k : ℕ) → length xs ≤ i → has x k ≡ OrLater f xs i x k
unfolding any
later-none f xs i x k h = rw (drop_of_length-le xs h) (sym (or-false (has x k)))

-- no pair is stored
pub none-stored : (b : Bool) (f : Pair → Bool) (xs : Pairs) → xs.count ≡ 0 → b ≡ (b || any f (pairs_of xs))
unfolding pairs_of
none-stored b f xs e = rw (any-end f (pair 0 0 0) xs.entries xs.count 0 (omega arith)) (sym (or-false b))

-- what the policy grants, by its rules and its pairs as they are stored
pub grants-stored : (p : Policy) (s : Sets) (g : Grants) (a : ℕ) → GrantsOf p g
    → (given (formula_in (rules_of g.rules) a) false (truth p s) || any (λ x. eqb x.action a && pair_holds p s x) (pairs_of g.pairs)) ≡ grants p a s
unfolding grants formula_true pair_true
grants-stored p s g a x = rw (x.rules, x.pairs)

-- in lane k the numbers of all actions, with the pairs from place i on, say so
abbrev pub Leads : Policy → Sets → List Pair → ℕ → (ℕ → ℕ) → ℕ → (ℕ → Bool) → Type 0
Leads p s xs i granted k so =
    (a : ℕ) → a < most_actions → OrLater (λ x. eqb x.action a && pair_holds p s x) xs i (granted a) k ≡ so a

-- the action of the pair at place i gains what the pair grants
pub leads-next : (p : Policy) (s : Sets) (xs : List Pair) (i : ℕ) → i < length xs
    → (k : ℕ) {n b : ℕ} {P : ℕ → ℕ → Type 0} {old new : List ℕ} → let x = get_or xs i (pair 0 0 0) in
    Placed n x.action P old new → b < n → has (in_block new n b x.action) k ≡ (has (in_block old n b x.action) k || pair_holds p s x)
    → (so : ℕ → Bool) → Leads p s xs i (in_block old n b) k so → Leads p s xs (i + 1) (in_block new n b) k so
leads-next p s xs i h k {n} {b} {old = old} {new} z g e so lead =
    let x = get_or xs i (pair 0 0 0) in
    let is : ℕ → Pair → Bool = λ a y. eqb y.action a && pair_holds p s y in
    placed_seen (λ a y. a < most_actions → OrLater (is a) xs (i + 1) y k ≡ so a) z g
    (λ f. later_more (is x.action) xs i h (in_block old n b x.action) (in_block new n b x.action) k (e ∙ rw (eq-eqb x.action x.action refl)) ∙ lead x.action f)
    (λ a q f. later-passed (is a) xs i h (in_block old n b a) k (rw (ne_eqb x.action a q)) ∙ lead a f)

-- ---- no other action

-- pairs of n actions hold of no other
pairs-past : (f : Pair → Bool) (xs : List Pair) (n a : ℕ) → ((x : Pair) → Memᴰ x xs → PairFits n x) → n ≤ a
    → any (λ x. eqb x.action a && f x) xs ≡ false
unfolding any
pairs-past f [] n a g h = refl
pairs-past f (x ∷ xs) n a g h =
    let l = g x (Memᴰ.head refl) in
    rw (ne_eqb x.action a (λ e. omega (arith, l.action))) (pairs-past f xs n a (λ y m. g y (Memᴰ.tail m)) h)

pub grants-past : (p : Policy) (s : Sets) (g : Grants) (a : ℕ) → GrantsOf p g → actions p.form ≤ a → grants p a s ≡ false
unfolding pairs_of
grants-past p s g a x h =
    sym (grants-stored p s g a x)
    ∙ rw (
      sym (outcome-all p s g.rules a) ∙ outcome-past p s (take g.rules.count g.rules.entries) (actions p.form) a x.fit.each h,
      pairs-past (pair_holds p s) (take g.pairs.count g.pairs.entries) (actions p.form) a x.pairs-fit.each h,
    )

-- pairs that fit the actions of one form fit those of any
pub pairs-placed : (p : Policy) (g : Grants) → GrantsOf p g → PairsFit most_actions g.pairs
pairs-placed p g x =
    record {
      count = x.pairs-fit.count;
      each = λ y m. let f = x.pairs-fit.each y m in record { action = lt_of_lt_of_le f.action (actions-most p.form); user = f.user; object = f.object };
    }

-- ---- the pairs of an action

-- a test passes at some number
pub some_of : (f : ℕ → Bool) (n k : ℕ) → k < n → f k ≡ true → some f n ≡ true
unfolding some
some_of f zero k h e = absurd (omega arith)
some_of f (suc n) k h e = elim (ℕ_discrete k n) [
  | yes q ↦ or_right (some f n) (f n) (rw q at e)
  | no q ↦ or_left (some f n) (f n) (some_of f n k (omega arith) e)
]

some_at : (f : ℕ → Bool) (n : ℕ) → some f n ≡ true → (k : ℕ) × (k < n) × (f k ≡ true)
unfolding some
some_at f zero e = absurd (false≢true e)
some_at f (suc n) e =
    ⊎_elim (λ h. let w = some_at f n h in (w.0, omega (arith, w.1), w.2)) (λ h. (n, omega arith, h)) (or_cases (some f n) (f n) e)

pub some_next : (f : ℕ → Bool) (n : ℕ) → some f (n + 1) ≡ (some f n || f n)
unfolding some
some_next f n = rw (add-one n)

-- one number more
module _ (f : ℕ → Bool) (n : ℕ) where
  pub some_more : {a : Bool} (b : Bool) → a ≡ (b || some f n) → (a || f n) ≡ (b || some f (n + 1))
  some_more b e = rw (e, some_next f n) (or_assoc b (some f n) (f n))

  pub some-passed : (b : Bool) → f n ≡ false → (b || some f n) ≡ (b || some f (n + 1))
  some-passed b e = rw (some_next f n, e, or-false (some f n))

pub or_none : (b : Bool) (f : ℕ → Bool) → b ≡ (b || some f 0)
unfolding some
or_none b f = sym (or-false b)

-- the user value is held and one of the object values before w, and then w too
module _ (p : Policy) (s : Sets) (v set : ℕ) where
  abbrev before : ℕ → Bool
  before = some (λ u. has set u && holds p s (Object u))

  pub partner-none : (b : Bool) → b ≡ (b || (holds p s (User v) && before 0))
  unfolding some
  partner-none b = rw (and-false (holds p s (User v))) (sym (or-false b))

  module _ (w : ℕ) where
    pub partner-held : {a : Bool} (b : Bool) → has set w ≡ true → a ≡ (b || (holds p s (User v) && before w))
        → (a || (holds p s (User v) && holds p s (Object w))) ≡ (b || (holds p s (User v) && before (w + 1)))
    partner-held b h e =
        rw (e, some_next (λ u. has set u && holds p s (Object u)) w, h) (spread b (holds p s (User v)) (before w) (holds p s (Object w)))
      where
        spread : (b x y z : Bool) → ((b || (x && y)) || (x && z)) ≡ (b || (x && (y || z)))
        spread true x y z = refl
        spread false true y z = refl
        spread false false y z = refl

    pub partner-passed : (b : Bool) → has set w ≡ false
        → (b || (holds p s (User v) && before w)) ≡ (b || (holds p s (User v) && before (w + 1)))
    partner-passed b h = rw (some_next (λ u. has set u && holds p s (Object u)) w, h, or-false (before w))

pub none-held : (p : Policy) (s : Sets) → partner_held p s 0 ≡ false
none-held p s =
    fails (partner_held p s 0)
    (λ e. let w = some_at (λ w. has 0 w && holds p s (Object w)) most_values e in never (has 0 w.0) (and_left (has 0 w.0) _ w.2) (has-zero w.0))

-- no user value is paired
pub none-paired : (b : Bool) (p : Policy) (s : Sets) (paired : List ℕ) → every (λ v. eqb (get_or paired v 0) 0) most_values ≡ true
    → b ≡ (b || paired_at p paired s)
none-paired b p s paired e =
    let f = fails (paired_at p paired s)
    (λ h.
    let u = some_at (λ v. holds p s (User v) && partner_held p s (get_or paired v 0)) most_values h in let v = u.0 in
    let z = eqb-true (get_or paired v 0) 0 (every-at (λ v. eqb (get_or paired v 0) 0) most_values e v u.1) in
    never (partner_held p s (get_or paired v 0)) (and_right (holds p s (User v)) _ u.2) (ap (partner_held p s) z ∙ none-held p s)) in
    rw f (sym (or-false b))

-- the pair at place i is one of the action's, its object value at its user value
abbrev pub is_at : ℕ → ℕ → ℕ → Pair → Bool
is_at a v w x = eqb x.action a && (eqb x.user v && eqb w x.object)

-- the sets, with the pairs from place i on, say what all pairs say
abbrev pub PairedTo : ℕ → List Pair → ℕ → List ℕ → Type 0
PairedTo a xs i paired = (v w : ℕ) → v < most_values → w < most_values → OrLater (is_at a v w) xs i (get_or paired v 0) w ≡ any (is_at a v w) xs

pub paired_none : (a : ℕ) (xs : List Pair) → PairedTo a xs 0 (replicate most_values 0)
paired_none a xs v w h g = rw (get_or-replicate {A = ℕ} most_values v 0 0 h, has-zero w)

-- no pair is stored, so none is the action's
pub paired_blank : (a : ℕ) (xs : Pairs) → xs.count ≡ 0 → Paired a (pairs_of xs) (replicate most_values 0)
paired_blank a xs e v w h g =
    rw (get_or-replicate {A = ℕ} most_values v 0 0 h, has-zero w) (none-stored false (is_at a v w) xs e)

module _ (a : ℕ) (xs : List Pair) (i : ℕ) (h : i < length xs) (paired : List ℕ) (b : PairedTo a xs i paired) where
  abbrev next : Pair
  next = get_or xs i (pair 0 0 0)

  pub paired_own : next.action ≡ a → next.user < length paired → (y : ℕ) → y ≡ 2 ^ next.object
      → PairedTo a xs (i + 1) (set paired next.user (bit_or (get_or paired next.user 0) y))
  paired_own e g y q v w j m =
      set-seen (λ u z. u < most_values → OrLater (is_at a u w) xs (i + 1) z w ≡ any (is_at a u w) xs) paired next.user _ g
      (λ k. later_more (is_at a next.user w) xs i h (get_or paired next.user 0) _ w
      (has-union (get_or paired next.user 0) y w ∙ rw (q, has_one next.object w, eq-eqb next.action a e, eq-eqb next.user next.user refl)) ∙ b next.user w k m)
      (λ u z k. later-passed (is_at a u w) xs i h (get_or paired u 0) w (rw (ne_eqb next.user u z, and-false)) ∙ b u w k m)
      v j

  pub paired_other : (next.action ≡ a → ⊥) → PairedTo a xs (i + 1) paired
  paired_other e v w j m = later-passed (is_at a v w) xs i h (get_or paired v 0) w (rw (ne_eqb next.action a e)) ∙ b v w j m

-- where the sets say what the action's pairs say, some value of them is held exactly where a pair holds
module _ (p : Policy) (s : Sets) (a n : ℕ) (xs : List Pair) (fits : (x : Pair) → Memᴰ x xs → PairFits n x) (paired : List ℕ) (b : Paired a xs paired) where
  abbrev own : Pair → Bool
  own x = eqb x.action a && pair_holds p s x

  abbrev partner : ℕ → ℕ → Bool
  partner set w = has set w && holds p s (Object w)

  abbrev user_held : ℕ → Bool
  user_held v = holds p s (User v) && partner_held p s (get_or paired v 0)

  own-holds : (x : Pair) (v w : ℕ) → eqb x.action a ≡ true → x.user ≡ v → w ≡ x.object → holds p s (User v) ≡ true → holds p s (Object w) ≡ true
      → own x ≡ true
  own-holds x v w e u o h g =
      and_both (eqb x.action a) (pair_holds p s x) e (and_both (holds p s (User x.user)) (holds p s (Object x.object)) (rw u h) (rw (sym o) g))

  to-pair : paired_at p paired s ≡ true → any own xs ≡ true
  to-pair e =
      let u = some_at user_held most_values e in let v = u.0 in
      let o = some_at (partner (get_or paired v 0)) most_values (and_right (holds p s (User v)) _ u.2) in let w = o.0 in
      let x = any_at (is_at a v w) xs (sym (b v w u.1 o.1) ∙ and_left (has (get_or paired v 0) w) _ o.2) in
      let y = x.0 in
      let t = and_right (eqb y.action a) _ x.2 in
      any_of own xs y x.1
      (own-holds y v w (and_left (eqb y.action a) _ x.2) (eqb-true y.user v (and_left (eqb y.user v) _ t)) (eqb-true w y.object (and_right (eqb y.user v) _ t))
      (and_left (holds p s (User v)) _ u.2) (and_right (has (get_or paired v 0) w) _ o.2))

  from-pair : any own xs ≡ true → paired_at p paired s ≡ true
  from-pair e =
      let x = any_at own xs e in let y = x.0 in let f = fits y x.1 in
      let t = and_right (eqb y.action a) _ x.2 in
      let m = b y.user y.object f.user f.object
      ∙ any_of (is_at a y.user y.object) xs y x.1
      (rw (and_left (eqb y.action a) _ x.2, eq-eqb y.user y.user refl, eq-eqb y.object y.object refl)) in
      some_of user_held most_values y.user f.user
      (and_both (holds p s (User y.user)) _ (and_left (holds p s (User y.user)) _ t)
      (some_of (partner (get_or paired y.user 0)) most_values y.object f.object
      (rw (m) (and_right (holds p s (User y.user)) _ t))))

  pub paired_is : paired_at p paired s ≡ any own xs
  paired_is = both_ways (paired_at p paired s) (any own xs) to-pair from-pair

-- a rule and sets that say what the action's say grant it
pub grant_of : (p : Policy) (gs : Grants) (a : ℕ) → GrantsOf p gs → (g : Grant) → g.rule.count ≤ word_places
    → ((s : Sets) → rule_true p g.rule s ≡ given (formula_in (rules_of gs.rules) a) false (truth p s))
    → Paired a (pairs_of gs.pairs) g.paired → GrantOf p a g
unfolding pairs_of
grant_of p gs a x g few rule own =
    record {
      few = few;
      same = λ s.
          rw (rule s, paired_is p s a (actions p.form) (pairs_of gs.pairs) x.pairs-fit.each g.paired own) (grants-stored p s gs a x);
    }
