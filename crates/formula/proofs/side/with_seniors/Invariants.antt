-- `formula::side::with_seniors` meets its contract: in every lane what the lines from a place on make of r is what all of
-- them make of the set.
use Prim.Native.Nat.{ℕ}
use mathlib.Core.Path.{◌≡◌}
use lib.ListN.{drop}
use Rattle.seniority.proofs.Laws.{raised}
use Rattle.formula.proofs.Vectors.{Grown}
use Rattle.formula.proofs.side.with_seniors.Given as goal

abbrev pub invariant-loop-line : goal.invariant-loop-line
invariant-loop-line l =
    (f : ℕ → ℕ) × Grown l.initial.r l.r f × ((s : ℕ) → raised (drop l.line-index l.lines) (f s) ≡ raised l.lines s)
