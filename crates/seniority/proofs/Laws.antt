-- Seniority: the test is the chains, and going through the lines once closes a set.
use mathlib.Core.Path.{◌≡◌, refl, sym, ap, ◌∙◌, subst}
use mathlib.Core.Bool.{Bool, true, false, cond, ◌&&◌, ◌||◌, or-false}
use mathlib.Core.List.{List, [], ◌∷◌, Memᴰ}
use mathlib.Core.Logic.{◌⊎◌, inl, inr, ⊎_elim, ◌↔◌}
use Prim.Native.Nat.{ℕ, zero, suc, ◌<◌, ◌≤◌, ◌^◌, ◌-◌, ◌+◌}
use native.Mathlib.Omega.{arith}
use native.Mathlib.Decide.{dec_lt}
use native.Mathlib.Numerals.{add-one}
use lib.Dec.{eqb}
use lib.ListN.{get_or, length, take, drop}
use lib.Seq.{length-take-le, drop-cons, get_or-take}
use borrow.Author.Tests.{eqb-true, eq-eqb}
use Rattle.basis.specs.Lists.{any}
use Rattle.basis.proofs.Bools.{and_left, and_right, and_both, or_cases, or_left, or_right, both_ways, never, fails}
use Rattle.basis.proofs.Lists.{any_at, any_of, get_or-in}
use Rattle.sets.specs.Set.{has, union, within}
use Rattle.sets.proofs.Laws.{has-union, has_one, has-none, has-set_of, has-set_of-none, same_set, within-iff}
use Rattle.seniority.specs.declared.Direct.{Direct}
use Rattle.seniority.specs.Seniority.{direct, Senior, chain, senior, held_or_senior, held_or_junior, reach}
use Rattle.seniority.specs.Inner.{From, Ordered, extended}
use Rattle.seniority.specs.Seniority.Senior.{one, more}

-- ---- what the order says of each line

from-line : (u : ℕ) (ls : List Direct) → From u ls → (l : Direct) → Memᴰ l ls → u ≤ l.senior
from-line u [] f l m = absurd (mathlib.Core.List.Memᴰ.not-nil m)
from-line u (p ∷ ls) f l (mathlib.Core.List.Memᴰ.head e) = rw e f.0
from-line u (p ∷ ls) f l (mathlib.Core.List.Memᴰ.tail m) = from-line u ls f.1 l m

pub ordered-line : (n : ℕ) (ls : List Direct) → Ordered n ls → (l : Direct) → Memᴰ l ls → (l.junior < l.senior) × (l.senior < n)
ordered-line n [] o l m = absurd (mathlib.Core.List.Memᴰ.not-nil m)
ordered-line n (p ∷ ls) o l (mathlib.Core.List.Memᴰ.head e) = rw e (o.0, o.1)
ordered-line n (p ∷ ls) o l (mathlib.Core.List.Memᴰ.tail m) = ordered-line n ls o.3 l m

-- lines over m values are lines over more
pub ordered-more : (m n : ℕ) → m ≤ n → (ls : List Direct) → Ordered m ls → Ordered n ls
ordered-more m n h [] o = o
ordered-more m n h (l ∷ ls) o = (o.0, omega (arith, o.1), o.2, ordered-more m n h ls o.3)

-- ---- the test is the chains

chain-only : (ls : List Direct) (n v j : ℕ) → chain ls n v j ≡ true → Senior ls v j
unfolding chain
chain-only ls zero v j e = absurd (never false e refl)
chain-only ls (suc n) v j e =
    let t = any_at (λ l. eqb l.senior v && (eqb l.junior j || chain ls n l.junior j)) ls e in
    let l : Direct = t.0 in
    let q : l.senior ≡ v = eqb-true l.senior v (and_left (eqb l.senior v) _ t.2) in
    let m : Memᴰ (direct v l.junior) ls = mathlib.Core.List.Memᴰ.cast (ap (λ (x : ℕ). direct x l.junior) (sym q)) t.1 in
    ⊎_elim
    (λ p. subst (λ (x : ℕ). Senior ls v x) (eqb-true l.junior j p) (one m))
    (λ p. more m (chain-only ls n l.junior j p))
    (or_cases (eqb l.junior j) (chain ls n l.junior j) (and_right (eqb l.senior v) _ t.2))

-- each line goes down
abbrev pub Falls : List Direct → Type 0
Falls ls = (l : Direct) → Memᴰ l ls → l.junior < l.senior

pub ordered-falls : (n : ℕ) (ls : List Direct) → Ordered n ls → Falls ls
ordered-falls n ls o l m = (ordered-line n ls o l m).0

module _ (ls : List Direct) (falls : Falls ls) where
  chain-all : {v j : ℕ} → Senior ls v j → (n : ℕ) → v ≤ n → chain ls n v j ≡ true
  unfolding chain
  chain-all {v} {j} (one m) zero h = absurd (omega (arith, falls (direct v j) m))
  chain-all {v} {j} (more {k = k} m t) zero h = absurd (omega (arith, falls (direct v k) m))
  chain-all {v} {j} (one m) (suc n) h =
      any_of _ ls (direct v j) m (and_both (eqb v v) _ (eq-eqb v v refl) (or_left (eqb j j) _ (eq-eqb j j refl)))
  chain-all {v} {j} (more {k = k} m t) (suc n) h =
      let d : k ≤ n = omega (arith, falls (direct v k) m) in
      any_of _ ls (direct v k) m (and_both (eqb v v) _ (eq-eqb v v refl) (or_right (eqb k j) _ (chain-all t n d)))

  pub senior-iff : (v j : ℕ) → (senior ls v j ≡ true) ↔ Senior ls v j
  unfolding senior
  senior-iff v j = (chain-only ls v v j, λ t. chain-all t v (omega arith))

-- ---- a chain's first and last line, and chains joined

first-line : {ls : List Direct} {v j : ℕ} → Senior ls v j → (k : ℕ) × Memᴰ (direct v k) ls
first-line {j = j} (one m) = (j, m)
first-line (more {k = k} m t) = (k, m)

last_line : {ls : List Direct} {v j : ℕ} → Senior ls v j → (k : ℕ) × Memᴰ (direct k j) ls
last_line {v = v} (one m) = (v, m)
last_line (more m t) = last_line t

wider : {p : Direct} {ls : List Direct} {v j : ℕ} → Senior ls v j → Senior (p ∷ ls) v j
wider (one m) = one (mathlib.Core.List.Memᴰ.tail m)
wider (more m t) = more (mathlib.Core.List.Memᴰ.tail m) (wider t)

then : {ls : List Direct} {v k j : ℕ} → Senior ls v k → Senior ls k j → Senior ls v j
then (one m) u = more m u
then (more m t) u = more m (then t u)

-- a chain goes down, and from a value below n
pub senior-bounds : (n : ℕ) (ls : List Direct) → Ordered n ls → {v j : ℕ} → Senior ls v j → (j < v) × (v < n)
senior-bounds n ls o {v} {j} (one m) = ordered-line n ls o (direct v j) m
senior-bounds n ls o {v} {j} (more {k = k} m t) =
    let h = ordered-line n ls o (direct v k) m in let i = senior-bounds n ls o t in (omega arith, omega arith)

-- ---- the lowest line

-- what a chain over one more line, from a down to b and lowest of all, can be: it has that line last or not at all
Split : ℕ → ℕ → List Direct → ℕ → ℕ → Type 0
Split a b ls w v = Senior ls w v ⊎ ((v ≡ b) × ((w ≡ a) ⊎ Senior ls w a))

module _ (n : ℕ) (p : Direct) (ls : List Direct) (o : Ordered n (p ∷ ls)) where
  -- no chain over the higher lines starts at the lowest line's junior
  none_from : {v : ℕ} → Senior ls p.junior v → ⊥
  none_from t = let m = first-line t in omega (arith, o.0, from-line p.senior ls o.2 (direct p.junior m.0) m.1)

  before : (w k v : ℕ) → Memᴰ (direct w k) ls → Split p.senior p.junior ls k v → Split p.senior p.junior ls w v
  unfolding Split
  before w k v m (inl t) = inl (more m t)
  before w k v m (inr (e, inl q)) = inr (e, inr (one (rw q at m)))
  before w k v m (inr (e, inr t)) = inr (e, inr (more m t))

  no_more : (v : ℕ) → Split p.senior p.junior ls p.junior v → ⊥
  unfolding Split
  no_more v (inl t) = none_from t
  no_more v (inr (e, inl q)) = omega (arith, o.0)
  no_more v (inr (e, inr t)) = none_from t

  split : {w v : ℕ} → Senior (p ∷ ls) w v → Split p.senior p.junior ls w v
  unfolding Split
  split {w} {v} (one m) =
      ⊎_elim (λ e. inr (ap (λ (l : Direct). l.junior) e, inl (ap (λ (l : Direct). l.senior) e))) (λ i. inl (one i)) (mathlib.Core.List.Memᴰ.cases_cons m)
  split {w} {v} (more {k = k} m t) =
      ⊎_elim
      (λ e. absurd (no_more v (subst (λ (x : ℕ). Split p.senior p.junior ls x v) (ap (λ (l : Direct). l.junior) e) (split t))))
      (λ i. before w k v i (split t))
      (mathlib.Core.List.Memᴰ.cases_cons m)

-- ---- a set with all juniors, or all seniors, of its values

pub has-extended : (s a b v : ℕ) → has (extended s a b) v ≡ (has s v || (has s a && eqb v b))
has-extended s a b v = go (has s a)
  where
    go : (h : Bool) → has (cond h (union s (2 ^ b)) s) v ≡ (has s v || (h && eqb v b))
    go true = has-union s (2 ^ b) v ∙ ap (λ (x : Bool). has s v || x) (has_one b v)
    go false = sym (or-false (has s v))

module _ (s a b : ℕ) where
  kept : (v : ℕ) → has s v ≡ true → has (extended s a b) v ≡ true
  kept v h = has-extended s a b v ∙ or_left (has s v) (has s a && eqb v b) h

  added : has s a ≡ true → has (extended s a b) b ≡ true
  added h = has-extended s a b b ∙ or_right (has s b) (has s a && eqb b b) (and_both (has s a) (eqb b b) h (eq-eqb b b refl))

  old_or_new : (v : ℕ) → has (extended s a b) v ≡ true → (has s v ≡ true) ⊎ ((v ≡ b) × (has s a ≡ true))
  old_or_new v e =
      ⊎_elim inl (λ h. inr (eqb-true v b (and_right (has s a) (eqb v b) h), and_left (has s a) (eqb v b) h))
      (or_cases (has s v) (has s a && eqb v b) (sym (has-extended s a b v) ∙ e))

-- s holds v or a senior of v; v or a junior of v
abbrev pub Above : List Direct → ℕ → ℕ → Type 0
Above ls s v = (has s v ≡ true) ⊎ ((w : ℕ) × (has s w ≡ true) × Senior ls w v)

abbrev pub Below : List Direct → ℕ → ℕ → Type 0
Below ls s v = (has s v ≡ true) ⊎ ((w : ℕ) × (has s w ≡ true) × Senior ls v w)

-- what `with_juniors` computes, from the last line, and `with_seniors`, from the first
unfoldable pub lowered : List Direct → ℕ → ℕ
lowered [] s = s
lowered (l ∷ ls) s = extended (lowered ls s) l.senior l.junior

unfoldable pub raised : List Direct → ℕ → ℕ
raised [] s = s
raised (l ∷ ls) s = raised ls (extended s l.junior l.senior)

lowered-only : (ls : List Direct) (s v : ℕ) → has (lowered ls s) v ≡ true → Above ls s v
unfolding lowered
lowered-only [] s v e = inl e
lowered-only (p ∷ ls) s v e =
    ⊎_elim
    (λ h. ⊎_elim inl (λ t. inr (t.0, t.1, wider t.2)) (lowered-only ls s v h))
    (λ h. inr (rw h.0 (⊎_elim
    (λ g. (p.senior, g, one (mathlib.Core.List.Memᴰ.head refl)))
    (λ t. (t.0, t.1, then (wider t.2) (one (mathlib.Core.List.Memᴰ.head refl))))
    (lowered-only ls s p.senior h.1))))
    (old_or_new (lowered ls s) p.senior p.junior v e)

module _ (n : ℕ) where
  lowered-all : (ls : List Direct) → Ordered n ls → (s v : ℕ) → Above ls s v → has (lowered ls s) v ≡ true
  unfolding lowered Split
  lowered-all [] o s v (inl h) = h
  lowered-all [] o s v (inr t) = absurd (mathlib.Core.List.Memᴰ.not-nil (first-line t.2).1)
  lowered-all (p ∷ ls) o s v (inl h) = kept (lowered ls s) p.senior p.junior v (lowered-all ls o.3 s v (inl h))
  lowered-all (p ∷ ls) o s v (inr t) =
      ⊎_elim
      (λ u. kept (lowered ls s) p.senior p.junior v (lowered-all ls o.3 s v (inr (t.0, t.1, u))))
      (λ u. rw u.0 (added (lowered ls s) p.senior p.junior (lowered-all ls o.3 s p.senior
      (⊎_elim (λ q. inl (rw q at t.1)) (λ c. inr (t.0, t.1, c)) u.1))))
      (split n p ls o t.2)

raised-only : (ls : List Direct) (s v : ℕ) → has (raised ls s) v ≡ true → Below ls s v
unfolding raised
raised-only [] s v e = inl e
raised-only (p ∷ ls) s v e =
    ⊎_elim
    (λ h. ⊎_elim inl (λ u. inr (p.junior, u.1, rw u.0 (one (mathlib.Core.List.Memᴰ.head refl)))) (old_or_new s p.junior p.senior v h))
    (λ t. ⊎_elim
    (λ g. inr (t.0, g, wider t.2))
    (λ u. inr (p.junior, u.1, then (wider (rw u.0 at t.2)) (one (mathlib.Core.List.Memᴰ.head refl))))
    (old_or_new s p.junior p.senior t.0 t.1))
    (raised-only ls (extended s p.junior p.senior) v e)

module _ (n : ℕ) where
  raised_all : (ls : List Direct) → Ordered n ls → (s v : ℕ) → Below ls s v → has (raised ls s) v ≡ true
  unfolding raised Split
  raised_all [] o s v (inl h) = h
  raised_all [] o s v (inr t) = absurd (mathlib.Core.List.Memᴰ.not-nil (first-line t.2).1)
  raised_all (p ∷ ls) o s v (inl h) = raised_all ls o.3 (extended s p.junior p.senior) v (inl (kept s p.junior p.senior v h))
  raised_all (p ∷ ls) o s v (inr t) =
      raised_all ls o.3 (extended s p.junior p.senior) v
      (⊎_elim
      (λ c. inr (t.0, kept s p.junior p.senior t.0 t.1, c))
      (λ u. let g = added s p.junior p.senior (rw u.0 at t.1) in
      ⊎_elim (λ q. inl (rw q g)) (λ c. inr (p.senior, g, c)) u.1)
      (split n p ls o t.2))

-- ---- the tests of the definitions

-- s holds v or some w with Q w, where a test decides Q and each such w stands at one end of some line
module _ (ls : List Direct) (end : Direct → ℕ) (q : ℕ → Bool) (Q : ℕ → Type 0) (test : (w : ℕ) → (q w ≡ true) ↔ Q w)
    (line : (w : ℕ) → Q w → (l : Direct) × Memᴰ l ls × (end l ≡ w)) where
  held-iff : (s v : ℕ)
      → ((has s v || any (λ l. has s (end l) && q (end l)) ls) ≡ true) ↔ ((has s v ≡ true) ⊎ ((w : ℕ) × (has s w ≡ true) × Q w))
  held-iff s v = (
    (λ e. ⊎_elim inl
        (λ h. let t = any_at (λ l. has s (end l) && q (end l)) ls h in let w : ℕ = end t.0 in
        inr (w, and_left (has s w) (q w) t.2, (test w).0 (and_right (has s w) (q w) t.2)))
        (or_cases (has s v) _ e)),
    ⊎_elim (or_left (has s v) _)
        (λ t. let l = line t.0 t.2 in
        or_right (has s v) _ (any_of _ ls l.0 l.1 (rw l.2 (and_both (has s t.0) (q t.0) t.1 ((test t.0).1 t.2))))),
  )

module _ (n : ℕ) (ls : List Direct) (o : Ordered n ls) where
  pub held_or_senior-iff : (s v : ℕ) → (held_or_senior ls s v ≡ true) ↔ Above ls s v
  unfolding held_or_senior
  held_or_senior-iff s v =
      held-iff ls (λ l. l.senior) (λ w. senior ls w v) (λ w. Senior ls w v) (λ w. senior-iff ls (ordered-falls n ls o) w v)
      (λ w t. let m = first-line t in (direct w m.0, m.1, refl)) s v

  pub held_or_junior-iff : (s v : ℕ) → (held_or_junior ls s v ≡ true) ↔ Below ls s v
  unfolding held_or_junior
  held_or_junior-iff s v =
      held-iff ls (λ l. l.junior) (senior ls v) (Senior ls v) (senior-iff ls (ordered-falls n ls o) v)
      (λ w t. let m = last_line t in (direct m.0 w, m.1, refl)) s v

  pub has-lowered : (s v : ℕ) → has (lowered ls s) v ≡ held_or_senior ls s v
  has-lowered s v =
      both_ways (has (lowered ls s) v) (held_or_senior ls s v)
      (λ h. (held_or_senior-iff s v).1 (lowered-only ls s v h))
      (λ h. lowered-all n ls o s v ((held_or_senior-iff s v).0 h))

  pub has-raised : (s v : ℕ) → has (raised ls s) v ≡ held_or_junior ls s v
  has-raised s v =
      both_ways (has (raised ls s) v) (held_or_junior ls s v)
      (λ h. (held_or_junior-iff s v).1 (raised-only ls s v h))
      (λ h. raised_all n ls o s v ((held_or_junior-iff s v).0 h))

  -- ---- a user's reach

  module _ (s : ℕ) (h : s < 2 ^ n) where
    pub held_or_senior-none : (v : ℕ) → n ≤ v → held_or_senior ls s v ≡ false
    held_or_senior-none v l =
        fails (held_or_senior ls s v)
        (λ e. ⊎_elim (λ p. never (has s v) p (has-none n s v h l)) (λ t. let b = senior-bounds n ls o t.2 in omega arith) ((held_or_senior-iff s v).0 e))

    pub held_or_junior-none : (v : ℕ) → n ≤ v → held_or_junior ls s v ≡ false
    held_or_junior-none v l =
        fails (held_or_junior ls s v)
        (λ e. ⊎_elim (λ p. never (has s v) p (has-none n s v h l)) (λ t. let b = senior-bounds n ls o t.2 in omega arith) ((held_or_junior-iff s v).0 e))

    pub has-reach : (v : ℕ) → has (reach ls n s) v ≡ held_or_senior ls s v
    unfolding reach
    has-reach v = elim (dec_lt v n) [
      | yes l ↦ has-set_of (held_or_senior ls s) n v l
      | no l ↦ has-set_of-none (held_or_senior ls s) n v (omega arith) ∙ sym (held_or_senior-none v (omega arith))
    ]

    pub reach-is : (r : ℕ) → ((v : ℕ) → has r v ≡ held_or_senior ls s v) → r ≡ reach ls n s
    reach-is r e = same_set r (reach ls n s) (λ v. e v ∙ sym (has-reach v))

    -- what is assigned is in reach, without a look at the lines
    pub assigned-reached : (x : ℕ) → within x s ≡ true → within x (reach ls n s) ≡ true
    unfolding held_or_senior
    assigned-reached x w = (within-iff x (reach ls n s)).1 (λ v h. has-reach v ∙ rw ((within-iff x s).0 w v h))

-- ---- one line of an array further

module _ (lines : List Direct) (n : ℕ) (fits : n ≤ length lines) where
  -- the lines of the first n from line i on
  lines-from : (i : ℕ) → i < n → drop i (take n lines) ≡ get_or lines i (direct 0 0) ∷ drop (suc i) (take n lines)
  lines-from i h =
      let k : i < length (take n lines) = rw (length-take-le n lines fits) h in
      drop-cons (take n lines) i (direct 0 0) k ∙ rw (get_or-take n lines i (direct 0 0) h)

  pub line-bounds : (b : ℕ) → Ordered b (take n lines) → (i : ℕ) → i < n
      → ((get_or lines i (direct 0 0)).junior < (get_or lines i (direct 0 0)).senior) × ((get_or lines i (direct 0 0)).senior < b)
  line-bounds b o i h =
      let k : i < length (take n lines) = rw (length-take-le n lines fits) h in
      rw (get_or-take n lines i (direct 0 0) h)
      at (ordered-line b (take n lines) o (get_or (take n lines) i (direct 0 0)) (get_or-in (take n lines) i (direct 0 0) k))

  pub lower-line : (s r i : ℕ) → 0 < i → i ≤ n → r ≡ lowered (drop i (take n lines)) s
      → extended r (get_or lines (i - 1) (direct 0 0)).senior (get_or lines (i - 1) (direct 0 0)).junior ≡ lowered (drop (i - 1) (take n lines)) s
  unfolding lowered
  lower-line s r zero p h e = absurd (omega arith)
  lower-line s r (suc i) p h e = let q : suc i - 1 ≡ i = omega arith in rw (q, lines-from i h, e)

  pub raise_line : (t r i : ℕ) → i < n → raised (drop i (take n lines)) r ≡ t
      → raised (drop (i + 1) (take n lines)) (extended r (get_or lines i (direct 0 0)).junior (get_or lines i (direct 0 0)).senior) ≡ t
  unfolding raised
  raise_line t r i h e = rw (add-one i) (rw (lines-from i h) at e)
