-- The numbers of a sound policy's lines have few enough digits to be read back.
use Prim.Native.Nat.{ℕ, ◌^◌, ◌≤◌, ◌<◌}
use mathlib.Core.Path.{◌≡◌}
use mathlib.Core.Bool.{true}
use native.Mathlib.Omega.{arith}
use lib.Dec.{lit<}
use lib.Pow.{pow_mono}
use Rattle.seniority.specs.declared.Direct.{Direct}
use Rattle.text.specs.Number.{most_digits}
use Rattle.text.specs.declared.number.Numbers.{Numbers}
use Rattle.policy.specs.Limits.{values, actions, object_numbers}
use Rattle.policy.specs.Policy.{Side, Policy, total}
use Rattle.policy.specs.Checks.{side_sizes}
use Rattle.policy.specs.Line.{no_numbers, one_number, two_numbers, three_numbers}
use Rattle.policy.specs.declared.value.Entry.{Entry}
use Rattle.policy.specs.declared.value.Conflict.{Conflict}
use Rattle.policy.specs.declared.value.Pair.{Pair}
use Rattle.policy.proofs.Forms.{values-most, actions-most}
use Rattle.policy.proofs.Parts.{line_fits, number_fits, conflict_within, pair_within, SideParts, Parts}
use Rattle.policy.proofs.Bounds.{direct-fits, entry-fits, conflict-fits, pair_fits_lem, total-few}

abbrev pub Short : ℕ → Type 0
Short n = n < 10 ^ most_digits

pub record Shorts (n : Numbers) : Type 0 where
  pub first : Short n.first
  pub second : Short n.second
  pub third : Short n.third

pub no_short : Shorts no_numbers
no_short = record { first = lit< tt; second = lit< tt; third = lit< tt }

pub one-short : (n : ℕ) → Short n → Shorts (one_number n)
one-short n h = record { first = h; second = lit< tt; third = lit< tt }

pub two-short : (n m : ℕ) → Short n → Short m → Shorts (two_numbers n m)
two-short n m h g = record { first = h; second = g; third = lit< tt }

module _ (form : ℕ) where
  pub width-short : (w : ℕ) → w ≤ values form → Shorts (one_number w)
  width-short w h = one-short w (omega (arith, values-most form))

  pub action-short : (a : ℕ) → a < actions form → Shorts (one_number a)
  action-short a h = one-short a (omega (arith, actions-most form))

  module _ (s : Side) (h : SideParts (values form) s) where
    pub direct-short : (l : Direct) → line_fits s l ≡ true → Shorts (two_numbers l.senior l.junior)
    direct-short l f =
        let b = direct-fits (side_sizes s) l.senior l.junior f in
        let m = total-few form s h in
        two-short l.senior l.junior (omega (arith, b.value)) (omega (arith, b.value, b.above))

    pub entry-short : (most : ℕ) → most ≤ object_numbers → (e : Entry) → number_fits most s e ≡ true → Shorts (two_numbers e.number e.set)
    entry-short most g e f =
        let b = entry-fits most s e f in
        let m = pow_mono (total-few form s h) in
        two-short e.number e.set (omega (arith, b.0)) (omega (arith, b.1))

    pub conflict-short : (x : Conflict) → conflict_within s x ≡ true → Shorts (two_numbers x.set x.most)
    conflict-short x f =
        let b = conflict-fits (total s) x f in
        let m = pow_mono (total-few form s h) in
        two-short x.set x.most (omega (arith, b.0)) (omega (arith, b.1))

pub pair-short : (p : Policy) → Parts p → (x : Pair) → pair_within p x ≡ true → Shorts (three_numbers x.action x.user x.object)
pair-short p t x f =
    let b = pair_fits_lem (actions p.form) (total p.user) (total p.object) x f in
    record {
      first = omega (arith, b.action, actions-most p.form);
      second = omega (arith, b.user, total-few p.form p.user t.user);
      third = omega (arith, b.object, total-few p.form p.object t.object);
    }
