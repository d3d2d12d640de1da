-- An attribute has the values from its first on, as many as it is wide, and a chain of seniority stays in one attribute.
use Rattle.std.specs.Prelude.{None}
use Prim.Native.Nat.{ℕ, zero, suc, ◌+◌, ◌-◌, ◌<◌}
use mathlib.Core.Path.{◌≡◌, ap, ◌∙◌}
use mathlib.Core.List.{List, [], ◌∷◌, Memᴰ}
use native.Mathlib.Decide.{dec_lt}
use native.Mathlib.Omega.{arith}
use borrow.Author.Tests.{lt-ltb, le-ltb}
use lib.ListN.{get_or, take}
use Rattle.basis.specs.Lists.{sum}
use Rattle.seniority.specs.Seniority.{direct, Senior}
use Rattle.seniority.specs.Seniority.Senior.{one, more}
use Rattle.seniority.proofs.Laws.{senior-bounds}
use Rattle.policy.specs.Policy.{Side, total, width, start, attribute_of}
use Rattle.policy.specs.Checks.{side_sizes}
use Rattle.policy.specs.Inner.Sound.{line_above}
use Rattle.policy.proofs.Parts.{line_fits, SideParts}
use Rattle.policy.proofs.Rising.{rising-at}
use Rattle.policy.proofs.Bounds.{direct-fits, lines-ordered}

-- place k of attribute i is in attribute i
attribute_of-place : (ws : List ℕ) (i k : ℕ) → k < get_or ws i 0 → attribute_of ws (sum (take i ws) + k) ≡ i
unfolding attribute_of sum
attribute_of-place [] i k h = absurd (omega arith)
attribute_of-place (w ∷ ws) zero k h = rw (lt-ltb (0 + k) w (omega arith))
attribute_of-place (w ∷ ws) (suc i) k h =
    let e : w + sum (take i ws) + k - w ≡ sum (take i ws) + k = omega arith in
    rw (le-ltb (w + sum (take i ws) + k) w (omega arith), e) (ap suc (attribute_of-place ws i k h))

-- a value is a place of its attribute
place-of_value : (ws : List ℕ) (v : ℕ) → v < sum ws → let i = attribute_of ws v in (k : ℕ) × (k < get_or ws i 0) × (v ≡ sum (take i ws) + k)
unfolding attribute_of sum
place-of_value [] v h = absurd (omega arith)
place-of_value (w ∷ ws) v h =
    elim (dec_lt v w) [
      | yes l ↦ rw (lt-ltb v w l) (v, l, omega arith)
      | no l ↦ let t = place-of_value ws (v - w) (omega arith) in rw (le-ltb v w (omega arith)) (t.0, t.1, omega (arith, t.2))
    ]

module _ (most : ℕ) (s : Side) (h : SideParts most s) where
  line-in_one : (v j : ℕ) → Memᴰ (direct v j) s.lines → attribute_of s.widths v ≡ attribute_of s.widths j
  line-in_one v j m = (direct-fits (side_sizes s) v j (rising-at (line_fits s) line_above None s.lines h.lines (direct v j) m)).same

  chain-in_one : {v j : ℕ} → Senior s.lines v j → attribute_of s.widths v ≡ attribute_of s.widths j
  chain-in_one {v} {j} (one m) = line-in_one v j m
  chain-in_one {v} {j} (more {k = k} m t) = line-in_one v k m ∙ chain-in_one t

  -- a senior of a place of attribute i is a place of it
  pub senior-place : (i k : ℕ) → k < width s i → (v : ℕ) → Senior s.lines v (start s i + k) → (m : ℕ) × (m < width s i) × (v ≡ start s i + m)
  unfolding start total
  senior-place i k l v t =
      let e : attribute_of s.widths v ≡ i = chain-in_one t ∙ attribute_of-place s.widths i k l in
      rw e at (place-of_value s.widths v (senior-bounds (total s) s.lines (lines-ordered most s h) t).1)
