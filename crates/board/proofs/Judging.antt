-- Sets against conflicts. The code counts the values that a set and a conflict have in common, for each conflict all
-- sets in turn; a set with fewer values is over no conflict that it kept to.
use Rattle.std.specs.Prelude.{None}
use Prim.Native.Nat.{ℕ, ◌≤◌, ◌<◌}
use mathlib.Core.Path.{◌≡◌, refl, ap, ◌∙◌}
use mathlib.Core.Bool.{Bool, true, false, not, ◌&&◌, or-false}
use mathlib.Core.List.{List, [], ◌∷◌, Memᴰ}
use native.Mathlib.Nat.{lt_of_le_of_lt}
use native.Mathlib.Omega.{arith}
use lib.Bits.{bit_and, and_le_l}
use lib.Count.{ones}
use lib.Dec.{ltb}
use lib.Pow.{pow_pos}
use borrow.Author.Tests.{le-ltb, ltb-false}
use Rattle.basis.specs.Lists.{any}
use Rattle.basis.specs.Numbers.{count}
use Rattle.basis.proofs.Bools.{and_left, and_right, and_both, both_ways, fails, never}
use Rattle.basis.proofs.Counting.{count_same, count_under}
use Rattle.basis.proofs.Lists.{any_at, any_of}
use Rattle.sets.specs.Set.{has, minus}
use Rattle.sets.proofs.Laws.{has_meet, has-minus}
use Rattle.sets.proofs.Count.{ones-counts}
use Rattle.policy.specs.Policy.{Policy, total, sets}
use Rattle.policy.specs.Value.{conflict_places, conflicts_value, conflicts_of, policy_of, value_of}
use Rattle.policy.specs.Valid.{valid}
use Rattle.policy.specs.Inner.Sound.{set_above}
use Rattle.policy.specs.declared.value.Conflict.{Conflict}
use Rattle.policy.specs.declared.value.PolicyValue.{PolicyValue}
use Rattle.policy.proofs.Parts.{conflict_within, Parts, parts, whole}
use Rattle.policy.proofs.Rising.{rising-at}
use Rattle.policy.proofs.Bounds.{conflict-fits}
use Rattle.policy.proofs.Valid.{valid-stored}
use Rattle.board.specs.Machine.{together, too_many}
use Rattle.board.specs.Inner.{exceeded, over}

-- ---- conflicts first or sets first

module _ {A B : Type 0} where
  turned : (f : A → B → Bool) (xs : List A) (ys : List B) → any (λ x. any (f x) ys) xs ≡ true → any (λ y. any (λ x. f x y) xs) ys ≡ true
  turned f xs ys e =
      let p = any_at (λ x. any (f x) ys) xs e in
      let q = any_at (f p.0) ys p.2 in
      any_of (λ y. any (λ x. f x y) xs) ys q.0 q.1 (any_of (λ x. f x q.0) xs p.0 p.1 q.2)

any-turned : {A B : Type 0} (f : A → B → Bool) (xs : List A) (ys : List B) → any (λ x. any (f x) ys) xs ≡ any (λ y. any (λ x. f x y) xs) ys
any-turned f xs ys =
    both_ways (any (λ x. any (f x) ys) xs) (any (λ y. any (λ x. f x y) xs) ys) (turned f xs ys) (turned (λ y x. f x y) ys xs)

any_same : {A : Type 0} (f g : A → Bool) → ((x : A) → f x ≡ g x) → (xs : List A) → any f xs ≡ any g xs
unfolding any
any_same f g e [] = refl
any_same f g e (x ∷ xs) = rw (e x, any_same f g e xs)

-- ---- the values in common, by count

module _ (p : Policy) (xs : List Conflict) (h : (c : Conflict) → Memᴰ c xs → c.set < sets p.user) where
  common : (set : ℕ) (c : Conflict) → c.set < sets p.user → ones (bit_and c.set set) ≡ together p set c
  unfolding together
  common set c l =
      ones-counts (total p.user) (bit_and c.set set) (lt_of_le_of_lt (and_le_l c.set set) l)
      ∙ count_same (has (bit_and c.set set)) (λ v. has c.set v && has set v) (total p.user) (λ v k. has_meet c.set set v)

  counted : (set : ℕ) (ys : List Conflict) → ((c : Conflict) → Memᴰ c ys → c.set < sets p.user)
      → any (λ c. ltb c.most (ones (bit_and c.set set))) ys ≡ any (λ c. ltb c.most (together p set c)) ys
  unfolding any
  counted set [] k = refl
  counted set (c ∷ ys) k = rw (common set c (k c (Memᴰ.head refl)), counted set ys (λ d m. k d (Memᴰ.tail m)))

  over-is : (ss : List ℕ) → over xs ss ≡ any (λ s. any (λ c. ltb c.most (together p s c)) xs) ss
  unfolding over exceeded
  over-is ss = any-turned (λ c s. ltb c.most (ones (bit_and c.set s))) xs ss ∙ any_same _ _ (λ s. counted s xs h) ss

-- the conflicts of a value that check 11 passes judge as its policy's
module _ (v : PolicyValue) (e : valid v ≡ true) where
  pub judges : (ss : List ℕ) → over (conflicts_of v.conflicts) ss ≡ any (too_many (policy_of v)) ss
  unfolding too_many policy_of
  judges ss =
      let p = policy_of v in
      let t : Parts p = parts p (whole p (valid-stored v e).1).lists in
      over-is p p.conflicts (λ c m. (conflict-fits (total p.user) c (rising-at (conflict_within p.user) set_above None p.conflicts t.conflicts c m)).0) ss

  pub judges-one : (s : ℕ) → over (conflicts_of v.conflicts) (s ∷ []) ≡ too_many (policy_of v) s
  unfolding any
  judges-one s = judges (s ∷ []) ∙ or-false (too_many (policy_of v) s)

  pub conflicts-within : v.conflicts.count ≤ conflict_places
  unfolding policy_of value_of conflicts_value
  conflicts-within =
      let q = valid-stored v e in
      let p = policy_of v in
      rw (ap (λ (x : PolicyValue). x.conflicts.count) q.0) at (parts p (whole p q.1).lists).few-conflicts

-- ---- a set within every conflict

pub few-each : (p : Policy) (set : ℕ) → too_many p set ≡ false → (c : Conflict) → Memᴰ c p.conflicts → together p set c ≤ c.most
unfolding too_many
few-each p set h c m =
    let f : Conflict → Bool = λ c. ltb c.most (together p set c) in
    ltb-false c.most (together p set c) (fails (f c) (λ e. never (any f p.conflicts) (any_of f p.conflicts c m e) h))

each-few : (p : Policy) (set : ℕ) → ((c : Conflict) → Memᴰ c p.conflicts → together p set c ≤ c.most) → too_many p set ≡ false
unfolding too_many
each-few p set h =
    let f : Conflict → Bool = λ c. ltb c.most (together p set c) in
    fails (any f p.conflicts)
    (λ e. let q = any_at f p.conflicts e in never (f q.0) q.2 (le-ltb q.0.most (together p set q.0) (h q.0 q.1)))

module _ (p : Policy) where
  nothing : (c : Conflict) → together p 0 c ≤ 0
  unfolding together ones
  nothing c =
      let h = count_under (λ v. has c.set v && has 0 v) (has 0) (total p.user) (λ v l h. and_right (has c.set v) (has 0 v) h) in
      let q : 0 ≡ count (has 0) (total p.user) = ones-counts (total p.user) 0 (pow_pos (total p.user)) in
      omega (arith, h, q)

  -- the empty set is over no conflict
  pub none_kept : too_many p 0 ≡ false
  none_kept = each-few p 0 (λ c m. omega (arith, nothing c))

  fewer : (a b : ℕ) (c : Conflict) → together p (minus a b) c ≤ together p a c
  unfolding together
  fewer a b c =
      count_under (λ v. has c.set v && has (minus a b) v) (λ v. has c.set v && has a v) (total p.user)
      (λ v l h.
      let m = and_right (has c.set v) (has (minus a b) v) h in
      and_both (has c.set v) (has a v) (and_left (has c.set v) (has (minus a b) v) h)
      (and_left (has a v) (not (has b v)) (rw (has-minus a b v) at m)))

  -- nor is a set with fewer values than one that is over none
  pub fewer-kept : (a b : ℕ) → too_many p a ≡ false → too_many p (minus a b) ≡ false
  fewer-kept a b h = each-few p (minus a b) (λ c m. omega (arith, fewer a b c, few-each p a h c m))
