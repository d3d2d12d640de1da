-- `labels::rows::put` meets its contract: with the set in every lane, the lanes of the blocks are those of the other side.
use Prim.Native.Nat.{ℕ, ◌+◌, ◌*◌, ◌%◌, ◌≤◌, ◌<◌}
use mathlib.Core.Path.{◌≡◌, refl, ap}
use mathlib.Core.Bool.{not}
use mathlib.Core.List.{List}
use native.Mathlib.Omega.{arith}
use native.Mathlib.Nat.{mod-eq_of_lt, zero-add, not-suc-le-zero}
use Rattle.policy.specs.Policy.{Side, Policy, total, sets}
use Rattle.policy.specs.Value.{side_of}
use Rattle.formula.specs.Inner.Lane.{lanes, in_block, Stands, side_at, grown_by, beside}
use Rattle.formula.specs.Inner.Source.{blocks_of}
use Rattle.formula.proofs.Placing.{stands-moved, blocks-room}
use Rattle.labels.specs.Compile.{entry_of}
use Rattle.labels.specs.Inner.Rows.{RowsOf, InLanes}
use Rattle.labels.specs.declared.rows.Rows.{Rows}
use Rattle.labels.proofs.Entries.{lane-entry}
use Rattle.labels.proofs.Grids.{others-few, row-blocks, row-covers}
use Rattle.labels.proofs.rows.Rows.put_row.Goals as goal

-- the lanes of a block, with one set of this side in all of them
lanes-stand : (p : Policy) (x : Rows) → RowsOf p x → (fixed : List ℕ) (s n : ℕ) → n ≤ sets (side_at (not x.user) p)
    → (b k : ℕ) → b < x.blocks → k < lanes → b * lanes + k < n
    → Stands (grown_by x.user (side_of x.side).lines) (in_block fixed x.blocks b) k s
    → InLanes p x.user (in_block fixed x.blocks b) (in_block x.others x.blocks b) k s (b * lanes + k)
lanes-stand p x r fixed s n few b k hb hk h stand =
    let e : (b * lanes + k) % sets (side_at (not x.user) p) ≡ b * lanes + k = mod-eq_of_lt (omega arith) in
    let w : b < blocks_of (total (side_at (not x.user) p)) = omega (arith, r.blocks) in
    record {
      lane = hk;
      here = rw (ap (λ (y : Side). y.lines) r.side) stand;
      there = rw r.blocks (rw e at (r.others b k w hk));
    }

pub closed-block-requires : goal.closed-block-requires
closed-block-requires c = c.requires.0.1.fits

pub put_over-requires : goal.put_over-requires
put_over-requires c = let h = c.requires.0 in (row-blocks h.0 _ h.1, refl)

pub put_granted-requires : goal.put_granted-requires
put_granted-requires c =
    let h = c.requires.0 in let m = row-blocks h.0 _ h.1 in let r = blocks-room _ m in
    ((h.0, h.1.sides, h.1.grants), omega (arith, r, c.put_over.ensures.0), omega (arith, r, h.1.long), m, omega (arith, m))

pub put_blocks-requires : goal.put_blocks-requires
put_blocks-requires c =
    let h = c.requires in let m = row-blocks h.0.0 _ h.0.1 in
    (row-covers h.0.0 _ h.0.1 _ h.0.2, omega (arith, others-few h.0.0 _ h.0.1 _ h.0.2), omega (arith, m, c.put_granted.ensures.0))

pub returns : goal.returns
returns c =
    let a = c.args in
    λ p o x few h.
    c.put_blocks.ensures.1 (λ i. entry_of p (beside a.self.now.user a.s i)) (λ i l. absurd (not-suc-le-zero l))
    (λ b k hb hk hn.
    rw (x.actions, zero-add (b * lanes + k))
    (lane-entry p _ x.grants (in_block c.put_granted.new.granted a.self.now.blocks b) k _
    (c.put_granted.ensures.1 b hb p k a.s (b * lanes + k) x.sides x.grants
    (lanes-stand p a.self.now x c.put_over.new.vectors a.s a.n few b k hb hk hn
    (stands-moved (λ v m. c.put_over.ensures.1 b v hb m) (c.closed-block.ensures k _ (c.spread.ensures k hk)))))))
    o (omega arith)
