-- Laws of entries: the entry of a lane, that entries differ at an action, and that user sets whose entries are equal
-- are alike.
use native.Mathlib.Nat.{le_refl}
use Prim.Native.Nat.{ℕ, suc, ◌+◌, ◌/◌, ◌%◌, ◌^◌, ◌≤◌, ◌<◌}
use mathlib.Core.Path.{◌≡◌, refl, sym, ap, ap₂, ◌∙◌}
use mathlib.Core.Bool.{Bool, true, false, not}
use mathlib.Core.List.{List}
use native.Mathlib.Nat.{mod-lt, lt_of_lt_of_le}
use native.Mathlib.Omega.{arith}
use native.Mathlib.Decide.{dec_lt}
use lib.Dec.{eqb, lit<}
use lib.ListN.{get_or}
use lib.Pow.{pow_mono}
use borrow.Author.Tests.{not-true, not-false}
use Rattle.std.specs.Int.RustNames.{bit_xor}
use Rattle.std.specs.Int.{bit_at, trailing_zeros}
use Rattle.std.proofs.Common.{w16}
use Rattle.std.proofs.lemmas.Nat.Bits.{bit_at-zero, bit_at_xor, bit_at-trailing_zeros, bit_at-lt}
use Rattle.basis.specs.Numbers.{agree}
use Rattle.basis.proofs.Bools.{fails, never}
use Rattle.basis.proofs.Counting.{first-least, first-is}
use Rattle.basis.proofs.Same.{agree-eq, eq_agree}
use Rattle.sets.specs.Set.{has, set_of}
use Rattle.sets.proofs.Laws.{digit-eq, has-none, same-below, set_of-lt, set_of-is, set_of-same, has-set_of, has-set_of-none}
use Rattle.policy.specs.Limits.{actions, most_actions}
use Rattle.policy.specs.Policy.{Policy, sets}
use Rattle.policy.proofs.Forms.{actions-most}
use Rattle.formula.specs.Truth.{Sets, at, grants}
use Rattle.formula.specs.Inner.Grant.{GrantsOf}
use Rattle.formula.specs.declared.grant.Grants.{Grants}
use Rattle.formula.specs.Inner.Group.{grouped}
use Rattle.formula.specs.Inner.Lane.{within}
use Rattle.formula.proofs.Grouping.{grouped-all, grouped-most}
use Rattle.formula.proofs.Pairing.{grants-past}
use Rattle.labels.specs.Compile.{entry_of}
use Rattle.labels.specs.Compile.{like_users}
use Rattle.labels.specs.Apart.{Separates}
use Rattle.labels.specs.Inner.Rows.{lane_entry, first_action}
use Rattle.labels.proofs.Alike.{alike_of, rows_alike_lem}

-- the values below m that pass a test are those below n that pass another, where the two agree and none of the rest
-- passes
set_of-within : (f g : ℕ → Bool) (n m : ℕ) → n ≤ m → ((v : ℕ) → v < m → f v ≡ g v) → ((v : ℕ) → n ≤ v → g v ≡ false) → set_of f m ≡ set_of g n
set_of-within f g n m h same past =
    set_of-is f m (set_of g n) (lt_of_lt_of_le (set_of-lt g n) (pow_mono h)) (λ v l. elim (dec_lt v n) [
      | yes b ↦ has-set_of g n v b ∙ sym (same v l)
      | no b ↦ has-set_of-none g n v (omega arith) ∙ sym (same v l ∙ past v (omega arith))
    ])

-- the entry of a lane is that of its sets
pub lane-entry : (p : Policy) (g : Grants) → GrantsOf p g → (granted : ℕ → ℕ) (k : ℕ) (s : Sets)
    → ((a : ℕ) → a < most_actions → has (granted a) k ≡ grants p a s) → lane_entry granted (actions p.form) k ≡ entry_of p s
unfolding entry_of
lane-entry p g x granted k s h =
    let n = actions p.form in
    set_of-within _ (λ a. grants p a s) n (grouped n) (grouped-all n (actions-most p.form))
    (λ a l. h a (lt_of_lt_of_le l (grouped-most n))) (λ a l. grants-past p s g a x l)

-- the same from the numbers of all actions, wherever they are kept
pub lane-same : (xs : List ℕ) (granted : ℕ → ℕ) (n k : ℕ) → ((a : ℕ) → a < most_actions → get_or xs a 0 ≡ granted a) → lane_entry (within xs) n k ≡ lane_entry granted n k
lane-same xs granted n k e =
    set_of-same _ _ (grouped n) (λ a l. ap (λ (x : ℕ). has x k) (e a (lt_of_lt_of_le l (grouped-most n))))

-- ---- the first action at which two entries differ

module _ (x y : ℕ) where
  differs_at : first_action x y < most_actions → agree (has x (first_action x y)) (has y (first_action x y)) ≡ false
  unfolding first_action
  differs_at h = not-true _ ((first-least _ most_actions).hit h)

  differs : x < 2 ^ most_actions → y < 2 ^ most_actions → (x ≡ y → ⊥) → first_action x y < most_actions
  unfolding first_action
  differs hx hy n =
      let l = first-least (λ a. not (agree (has x a) (has y a))) most_actions in
      let all : ¬ (most_actions ≤ first_action x y) = λ b.
      n (same-below most_actions x y hx hy (λ a h. agree-eq (has x a) (has y a) (not-false _ (l.before a (omega arith))))) in
      omega arith

  -- going through the actions finds it
  pub action-is : (a : ℕ) → a ≤ most_actions → ((i : ℕ) → i < a → x / 2 ^ i % 2 ≡ y / 2 ^ i % 2)
      → (a < most_actions → x / 2 ^ a % 2 ≡ y / 2 ^ a % 2 → ⊥) → a ≡ first_action x y
  unfolding first_action
  action-is a w b h =
      sym (first-is (λ i. not (agree (has x i) (has y i))) most_actions a
      (record {
        within = w;
        before = λ i l. rw (eq_agree (has x i) (has y i) (ap (λ (d : ℕ). eqb d 1) (b i l)));
        hit = λ l. rw (fails (agree (has x a) (has y a)) (λ e.
            h l (digit-eq (x / 2 ^ a % 2) (y / 2 ^ a % 2) (mod-lt _ (lit< tt)) (mod-lt _ (lit< tt)) (agree-eq (has x a) (has y a) e))));
      }))

  -- which is the lowest bit that they do not share
  shared : (i : ℕ) → (bit_at x i + bit_at y i) % 2 ≡ 0 → x / 2 ^ i % 2 ≡ y / 2 ^ i % 2
  shared i e = let a = bit_at-lt x i in let b = bit_at-lt y i in omega (arith, a, b, e)

  pub first-xor : bit_xor x y < 2 ^ most_actions → trailing_zeros w16 (bit_xor x y) ≡ first_action x y
  unfolding lib.Count.count_trailing_zeros
  first-xor few =
      elim (dec_lt 0 (bit_xor x y)) [
        | yes b ↦
            let t = bit_at-trailing_zeros w16 (bit_xor x y) b few in
            let l = t.0 in
            action-is _ (omega (arith, t.0)) (λ i h. shared i (sym (bit_at_xor x y i) ∙ t.2 i h))
            (λ _ q. let e : bit_at x (trailing_zeros w16 (bit_xor x y)) ≡ bit_at y (trailing_zeros w16 (bit_xor x y)) = q in
            let z = sym (bit_at_xor x y (trailing_zeros w16 (bit_xor x y))) ∙ t.1 in omega (arith, e, z))
        | no b ↦
            let none : bit_xor x y ≡ 0 = omega arith in
            rw none (action-is most_actions (le_refl most_actions) (λ i h. shared i (sym (bit_at_xor x y i) ∙ rw none (bit_at-zero i))) (λ h. absurd (omega arith)))
      ]

-- ---- two user sets

module _ (p : Policy) (u w : ℕ) where
  pub entries-alike : ((o : ℕ) → o < sets p.object → entry_of p (at u o) ≡ entry_of p (at w o)) → like_users p u w ≡ true
  unfolding like_users entry_of
  entries-alike h =
      sym (rows_alike_lem (λ v o. entry_of p (at v o)) (grants p) (actions p.form) (suc (u + w)) (sets p.object) (λ v o hv ho. refl) u w (omega arith) (omega arith))
      ∙ alike_of (λ v o. entry_of p (at v o)) (sets p.object) u w h

  pub entries-separate : (o : ℕ) → o < sets p.object → (entry_of p (at u o) ≡ entry_of p (at w o) → ⊥)
      → Separates p u w (first_action (entry_of p (at u o)) (entry_of p (at w o))) o
  unfolding entry_of
  entries-separate o h n =
      let k = actions p.form in
      let x = entry_of p (at u o) in
      let y = entry_of p (at w o) in
      let hx : x < 2 ^ k = set_of-lt _ k in
      let hy : y < 2 ^ k = set_of-lt _ k in
      let most = pow_mono (actions-most p.form) in
      let d = differs_at x y (differs x y (lt_of_lt_of_le hx most) (lt_of_lt_of_le hy most) n) in
      let past : ¬ (k ≤ first_action x y) = λ b.
      never (agree (has x (first_action x y)) (has y (first_action x y)))
      (eq_agree _ _ (has-none k x (first_action x y) hx b ∙ sym (has-none k y (first_action x y) hy b))) d in
      let l : first_action x y < k = omega arith in
      record {
        action = l;
        object = h;
        differ = sym (ap₂ agree (has-set_of (λ i. grants p i (at u o)) k (first_action x y) l) (has-set_of (λ i. grants p i (at w o)) k (first_action x y) l)) ∙ d;
      }
