-- `labels::strips::part` meets its contract: the labels are those by the rows of the strips before q, and a strip parts
-- them further.
use Prim.Native.Nat.{ℕ, min, ◌+◌, ◌-◌, ◌*◌, ◌/◌, ◌%◌, ◌≤◌, ◌<◌}
use mathlib.Core.Path.{◌≡◌, ap, ◌∙◌}
use mathlib.Core.List.{List}
use native.Mathlib.Nat.{le_refl, mul-le-mul, le-div_iff_mul-le}
use native.Mathlib.Omega.{arith}
use lib.ListN.{length, get_or, take, drop}
use Rattle.std.proofs.lemmas.Grind.{div_ceil_times}
use Rattle.std.proofs.lemmas.List.{length-take-le, length-drop, get_or-take, get_or-drop}
use Rattle.formula.specs.Inner.Lane.{beside}
use Rattle.policy.specs.Limits.{most_sets}
use Rattle.labels.specs.Compile.{entry_of}
use Rattle.labels.specs.Inner.Grid.{grid_places}
use Rattle.labels.proofs.Grids.{begun}
use Rattle.labels.proofs.Refining.{labelled-none, still_alike}
use Rattle.labels.proofs.Turn.{labelled-same}
use Rattle.labels.proofs.strips.part.Goals as goal

-- a strip has some row
some-rows : (n : ℕ) → 0 < n → n ≤ most_sets → 0 < grid_places / n
some-rows n some few = (le-div_iff_mul-le some).1 (omega (arith, few))

-- the k sets from a place on
module _ (xs : List ℕ) (s k : ℕ) (h : s + k ≤ length xs) where
  strip-long : length (take (s + k - s) (drop s xs)) ≡ k
  strip-long =
      let e : s + k - s ≡ k = omega arith in
      rw e (length-take-le k (drop s xs) (omega (arith, length-drop s xs)))

  strip_at : (i : ℕ) → i < k → get_or (take (s + k - s) (drop s xs)) i 0 ≡ get_or xs (s + i) 0
  strip_at i l = get_or-take (s + k - s) (drop s xs) i 0 (omega arith) ∙ get_or-drop s xs i 0

pub loop-q-init : goal.loop-q-init
loop-q-init c = λ p rows q.
    let s = c.requires in
    let e = s.5 in
    let none : min (0 * (grid_places / c.args.n)) (length c.args.chosen.now) ≡ 0 = omega arith in
    rw (none, e.one) (labelled-none _ _ s.1 _ _ e.labels e.leader)

pub loop-q-preserved : goal.loop-q-preserved
loop-q-preserved c = λ p rows q.
    let l = c.loop-q in
    let a = c.args in
    let s = c.requires in
    let most : ℕ = grid_places / a.n in
    let start : ℕ = l.q * most in
    let columns = c.min-columns.result in
    let all : ℕ = length a.chosen.now in
    let first : start < all = begun l.q most all (some-rows a.n s.1 s.2) (omega (arith, c.div_ceil-q-end.ensures, c.loop-q-test.true)) in
    let within : start + columns ≤ all = omega (arith, c.min-columns.ensures, first) in
    let before : min start all ≡ start = omega (arith, first) in
    let after : min ((l.q + 1) * most) all ≡ start + columns = omega (arith, c.min-columns.ensures, first) in
    rw after
    (labelled-same (still_alike _ _ start (rw before at (l.invariant p rows q)) _ columns (λ u i hu hi.
    let e : u * 1 + i * a.n ≡ i * a.n + u = omega arith in
    ap (λ (x : ℕ). get_or c.fill.new.grid x 0) e
    ∙ c.fill.ensures p rows (omega (arith, q)) i u (omega (arith, strip-long a.chosen.now start columns within)) hu
    ∙ ap (λ (x : ℕ). entry_of p (beside a.from.now.user x u)) (strip_at a.chosen.now start columns within i hi))) c.part.ensures)

pub returns : goal.returns
returns c = λ p rows q.
    let s = c.requires in
    let most : ℕ = grid_places / c.args.n in
    let all : ℕ = length c.args.chosen.now in
    let d : (all / most + min 1 (all % most)) * most ≤ c.loop-q.q * most =
    mul-le-mul (omega (arith, c.div_ceil-q-end.ensures, c.loop-q-test.false)) (le_refl most) in
    let e : min (c.loop-q.q * most) all ≡ all = omega (arith, d, (div_ceil_times all most (some-rows c.args.n s.1 s.2)).0) in
    rw e at (c.loop-q.invariant p rows q)
