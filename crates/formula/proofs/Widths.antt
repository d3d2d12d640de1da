-- The first values of attributes are sums of widths: each lies a width above the one before, and none above the number
-- of values.
use Prim.Native.Nat.{ℕ, zero, suc, ◌+◌, ◌≤◌, ◌<◌}
use mathlib.Core.Path.{◌≡◌, sym, ap, ◌∙◌}
use mathlib.Core.List.{List, [], ◌∷◌}
use native.Mathlib.Omega.{arith}
use lib.ListN.{length, get_or, take, length-take, get_or-eq_default}
use lib.Seq.{take-nil, take_all, get_or-take}
use Rattle.basis.specs.Lists.{sum}
use Rattle.policy.specs.Policy.{Side, total, width, start}
use Rattle.policy.specs.Limits.{most_values}
use Rattle.formula.specs.Inner.Lane.{Starts}

pub sum-next : (ws : List ℕ) (i : ℕ) → sum (take (i + 1) ws) ≡ sum (take i ws) + get_or ws i 0
unfolding sum
sum-next [] i = rw (take-nil (i + 1), take-nil i)
sum-next (w ∷ ws) zero = omega arith
sum-next (w ∷ ws) (suc i) = let e : suc i + 1 ≡ suc (i + 1) = omega arith in rw e (omega (arith, sum-next ws i))

pub sum-le : (ws : List ℕ) (i : ℕ) → sum (take i ws) ≤ sum ws
unfolding sum
sum-le [] i = rw (take-nil i) (omega arith)
sum-le (w ∷ ws) zero = omega arith
sum-le (w ∷ ws) (suc i) = omega (arith, sum-le ws i)

-- the same over the first n of an array's widths
module _ (ws : List ℕ) (n i : ℕ) where
  pub width-in : i < n → sum (take (i + 1) (take n ws)) ≡ sum (take i (take n ws)) + get_or ws i 0
  width-in h = sum-next (take n ws) i ∙ rw (get_or-take n ws i 0 h)

  pub width-out : n ≤ i → sum (take (i + 1) (take n ws)) ≡ sum (take i (take n ws))
  width-out h =
      let l : length (take n ws) ≤ i = omega (arith, length-take n ws) in
      sum-next (take n ws) i ∙ rw (get_or-eq_default (take n ws) 0 l) (omega arith)

module _ (s : Side) (i : ℕ) where
  pub start-next : start s (i + 1) ≡ start s i + width s i
  unfolding start
  start-next = sum-next s.widths i

  pub start-le : start s i ≤ total s
  unfolding start total
  start-le = sum-le s.widths i

-- every attribute lies among the values
pub start_fits : (s : Side) (xs : List ℕ) → Starts s xs → (i : ℕ) → start s i + width s i ≤ most_values
start_fits s xs x i = omega (arith, start-next s i, start-le s (i + 1), x.most)

-- past the last attribute the table serves every place
pub start-past : (s : Side) (xs : List ℕ) → Starts s xs → (i : ℕ) → most_values ≤ i → get_or xs most_values 0 ≡ start s i
unfolding start
start-past s xs x i h =
    x.at most_values (omega arith) ∙ ap sum (take_all most_values s.widths x.few ∙ sym (take_all i s.widths (omega (arith, x.few))))

pub values-at : (s : Side) (xs : List ℕ) → Starts s xs → get_or xs most_values 0 ≡ total s
unfolding start total
values-at s xs x = x.at most_values (omega arith) ∙ ap sum (take_all most_values s.widths x.few)
