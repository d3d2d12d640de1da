-- `text::kind::may_follow` meets its contract: one computed test over the whole table, and the law that gives it at
-- each entry.
use Prim.Native.Nat.{ℕ}
use mathlib.Core.Path.{◌≡◌, ◌∙◌}
use mathlib.Core.Bool.{Bool, true, false, ◌&&◌}
use mathlib.Core.List.{List, []}
use native.Mathlib.Omega.{arith}
use borrow.Author.Tests.{eqb-true}
use lib.Dec.{eqb}
use lib.ListN.{length, get_or}
use Rattle.basis.specs.Numbers.{agree}
use Rattle.basis.proofs.Bools.{and_left, and_right}
use Rattle.basis.proofs.Same.{agree-eq}
use Rattle.basis.proofs.Table.{every_entry, at}
use Rattle.text.specs.Kind.{kinds, place_of, follows}
use Rattle.text.specs.declared.kind.Kind.{Kind}
use Rattle.text.proofs.Naming.{place-lt, kind_at, kind-at}
use Rattle.text.proofs.kind.may_follow.Goals as goal

-- the row of a kind says which kinds follow it
abbrev entry : ℕ → ℕ → Bool → Bool
entry i j b = agree b (follows (kind_at i) (kind_at j))

abbrev row : ℕ → List Bool → Bool
row i r = eqb (length r) (length kinds) && every_entry (entry i) 0 r

-- a table for every two kinds whose rows pass the test says which kind may follow which
successors : (table : List (List Bool)) → every_entry row 0 table ≡ true → length table ≡ length kinds
    → (j k : Kind) (a b : ℕ) → a ≡ place_of j → b ≡ place_of k → get_or (get_or table a []) b false ≡ follows j k
successors table e l j k a b p q =
    let i = place_of j in
    let r = get_or table i [] in
    let t : row i r ≡ true = at row [] table e i (rw l (place-lt j)) in
    let g = eqb-true (length r) (length kinds) (and_left (eqb (length r) (length kinds)) (every_entry (entry i) 0 r) t) in
    rw (p, q)
    (agree-eq (get_or r (place_of k) false) (follows (kind_at i) (kind_at (place_of k)))
    (at (entry i) false r (and_right (eqb (length r) (length kinds)) (every_entry (entry i) 0 r) t) (place_of k) (rw g (place-lt k)))
    ∙ rw (kind-at j, kind-at k))

pub offset_bounds-row : goal.offset_bounds-row
offset_bounds-row c = omega (arith, place-lt c.args.j)

pub bounds-row : goal.bounds-row
bounds-row c = omega (arith, place-lt c.args.j)

pub bounds-column : goal.bounds-column
bounds-column c = omega (arith, place-lt c.args.k)

pub returns : goal.returns
unfolding follows
returns c = search successors
