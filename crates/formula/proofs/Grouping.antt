-- The entry of one lane: summed bit by bit within a group of actions, and group by group.
use Prim.Native.Nat.{ℕ, zero, suc, ◌+◌, ◌*◌, ◌^◌, ◌%◌, ◌≤◌, ◌<◌}
use mathlib.Core.Path.{◌≡◌, ap, ap₂, ◌∙◌}
use mathlib.Core.Bool.{Bool, true, false, cond}
use native.Mathlib.Nat.{add-zero, zero-add}
use native.Mathlib.Numerals.{add-one}
use native.Mathlib.Omega.{arith}
use native.Mathlib.Decide.{dec_le}
use lib.Dec.{leb, lit≤}
use lib.Pow.{pow-add, shl_exact}
use borrow.Author.Tests.{le-leb, lt-leb}
use Rattle.sets.specs.Set.{set_of}
use Rattle.sets.proofs.Laws.{set_of-lt, set_of-same}
use Rattle.policy.specs.Limits.{most_actions}
use Rattle.formula.specs.Inner.Group.{group_size, grouped}
use Rattle.formula.specs.Inner.Lane.{entry_bits}

set_of-next : (f : ℕ → Bool) (a : ℕ) → set_of f (a + 1) ≡ set_of f a + cond (f a) (2 ^ a) 0
unfolding set_of
set_of-next f a = rw (add-one a)

-- the values below m, and n more from m on
bit_moved : (b : Bool) (x m n : ℕ) → (x + cond b (2 ^ n) 0) * 2 ^ m ≡ x * 2 ^ m + cond b (2 ^ (m + n)) 0
bit_moved true x m n = omega (arith, pow-add 2 m n)
bit_moved false x m n = omega arith

set_of-join : (f : ℕ → Bool) (m n : ℕ) → set_of f m + set_of (λ a. f (m + a)) n * 2 ^ m ≡ set_of f (m + n)
unfolding set_of
set_of-join f m zero = rw (add-zero m) (omega arith)
set_of-join f m (suc n) =
    let e : m + n + 1 ≡ m + suc n = omega arith in
    let h : set_of f m + (set_of (λ a. f (m + a)) n * 2 ^ m + cond (f (m + n)) (2 ^ (m + n)) 0) ≡ set_of f (m + n + 1)
    = omega (arith, set_of-join f m n, set_of-next f (m + n)) in
    ap (λ (x : ℕ). set_of f m + x) (bit_moved (f (m + n)) (set_of (λ a. f (m + a)) n) m n) ∙ h ∙ ap (set_of f) e

-- the group that starts at action 0
module _ (f : ℕ → Bool) {low : ℕ} (ql : low ≡ set_of (λ a. f (0 + a)) group_size) where
  first_group : low ≡ set_of f group_size
  first_group = ql ∙ set_of-same _ f group_size (λ a h. ap f (zero-add a))

  -- no more actions than one group has
  pub one-group : (n : ℕ) → n ≤ group_size → low ≡ set_of f (grouped n)
  unfolding grouped
  one-group n h = rw (le-leb n group_size h) first_group

module _ (f : ℕ → Bool) {low high : ℕ} (ql : low ≡ set_of (λ a. f (0 + a)) group_size) (qh : high ≡ set_of (λ a. f (group_size + a)) group_size) where
  shifted : (high * 2 ^ group_size) % 2 ^ entry_bits ≡ high * 2 ^ group_size
  shifted = shl_exact group_size group_size entry_bits (omega (arith, qh, set_of-lt (λ a. f (group_size + a)) group_size)) (lit≤ tt)

  joined : low + (high * 2 ^ group_size) % 2 ^ entry_bits ≡ set_of f most_actions
  joined = ap₂ (λ (x y : ℕ). x + y) (first_group f ql) (shifted ∙ ap (λ (x : ℕ). x * 2 ^ group_size) qh) ∙ set_of-join f group_size group_size

  -- more actions
  pub two-groups : (n : ℕ) → group_size < n → low + (high * 2 ^ group_size) % 2 ^ entry_bits ≡ set_of f (grouped n)
  unfolding grouped
  two-groups n h = rw (lt-leb n group_size h) joined

-- ---- how many actions the groups have

pub grouped-most : (n : ℕ) → grouped n ≤ most_actions
unfolding grouped
grouped-most n = most (leb n group_size)
  where
    most : (b : Bool) → cond b group_size most_actions ≤ most_actions
    most true = lit≤ tt
    most false = lit≤ tt

pub grouped-all : (n : ℕ) → n ≤ most_actions → n ≤ grouped n
unfolding grouped
grouped-all n h =
    elim (dec_le n group_size) [
      | yes l ↦ rw (le-leb n group_size l) l
      | no l ↦ rw (lt-leb n group_size (omega arith)) h
    ]
