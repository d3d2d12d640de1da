-- Putting the labels of n sets at the start of a buffer, one a turn, whichever side they are of.
use Prim.Native.Nat.{ℕ, ◌+◌, ◌≤◌, ◌<◌, zero-le}
use mathlib.Core.Path.{◌≡◌, ◌∙◌}
use mathlib.Core.List.{List}
use native.Mathlib.Omega.{arith}
use lib.ListN.{length, get_or, set, take}
use Rattle.std.proofs.lemmas.List.{length-take-le, get_or-take}
use Rattle.basis.proofs.Filled.{Filled, filled_none, filled_more, filled-count, filled-same, filled-over}
use Rattle.labels.specs.Inner.Grid.{Fit, Puts}

-- those of the first k are there
pub record Putting (labels : List ℕ) (n k : ℕ) (old xs : List ℕ) : Type 0 where
  pub within : k ≤ n
  pub room : n ≤ length old
  pub filled : Filled (λ j. get_or labels j 0) k old xs

pub putting_none : (labels : List ℕ) (n : ℕ) (old : List ℕ) → n ≤ length old → Putting labels n 0 old old
putting_none labels n old h = record { within = zero-le; room = h; filled = filled_none _ _ }

module _ {labels : List ℕ} {n k : ℕ} {old xs : List ℕ} (P : Putting labels n k old xs) where
  pub putting_room : k < n → k < length xs
  putting_room h = omega (arith, P.room, P.filled.size)

  pub putting_more : {x : ℕ} → k < n → x ≡ get_or labels k 0 → Putting labels n (k + 1) old (set xs k x)
  putting_more h q =
      record { within = omega arith; room = P.room; filled = filled_more P.filled (omega (arith, P.room)) q }

  pub putting_all : n ≤ k → Puts labels n old xs
  putting_all h = λ f q. filled-over (filled-same (filled-count P.filled (omega (arith, P.within))) q) P.room

-- where the labels are the first n of a longer list
module _ (labels : List ℕ) (n : ℕ) (long : n ≤ length labels) where
  pub first-puts : (old xs : List ℕ) → Puts (take n labels) (length (take n labels)) old xs → Puts labels n old xs
  first-puts old xs P f q =
      rw (← length-take-le n labels long) (P f (λ i h. let l : i < n = omega (arith, length-take-le n labels long) in get_or-take n labels i 0 l ∙ q i l))

  pub first-fit : (bits : ℕ) → Fit bits n labels → Fit bits (length (take n labels)) (take n labels)
  first-fit bits F i h = let l : i < n = omega (arith, length-take-le n labels long) in rw (get_or-take n labels i 0 l) (F i l)
