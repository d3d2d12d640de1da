-- `labels::whole::fill` meets its contract: the places before row q of blocks have the entries of their numbers, and the
-- lanes of that row stand for the next numbers.
use Prim.Native.Nat.{ℕ, min, ◌+◌, ◌*◌, ◌/◌, ◌%◌, ◌^◌, ◌≤◌, ◌<◌}
use mathlib.Core.Path.{◌≡◌, ap, ap₂, ◌∙◌}
use mathlib.Core.Bool.{true}
use mathlib.Core.List.{List}
use native.Mathlib.Omega.{arith}
use native.Mathlib.Nat.{mul-le-mul, mod-eq_of_lt, div-lt_iff_lt-mul, le_refl}
use lib.Arith.{digits_lt, digits_div, digits_mod}
use Rattle.std.proofs.lemmas.Grind.{div_ceil_times}
use lib.ListN.{get_or}
use lib.Pow.{pow_pos}
use Rattle.seniority.specs.Seniority.{held_or_senior}
use Rattle.policy.specs.Policy.{Side, Policy, total, sets as sets_of}
use Rattle.policy.specs.Value.{side_of}
use Rattle.formula.specs.Truth.{at}
use Rattle.formula.specs.Inner.Lane.{lanes, in_block, Stands, InBlock}
use Rattle.formula.specs.Inner.Source.{blocks_of}
use Rattle.formula.proofs.Numbering.{row-high, row_low}
use Rattle.formula.proofs.Placing.{blocks-room, stands-moved}
use Rattle.labels.specs.Compile.{entry_of}
use Rattle.labels.specs.Inner.Rows.{RowsOf}
use Rattle.labels.specs.declared.rows.Rows.{Rows}
use Rattle.labels.proofs.Entries.{lane-entry}
use Rattle.labels.proofs.Grids.{row-place, row-blocks, begun}
use Rattle.labels.proofs.whole.fill.Invariants.{numbered}
use Rattle.labels.proofs.whole.fill.Goals as goal

-- lane k of block b in row q stands for the sets of its number
lane-stands : (p : Policy) (x : Rows) → RowsOf p x → x.user ≡ true → (users : List ℕ) (q b k : ℕ) → b < x.blocks → k < lanes
    → (q * x.blocks + b) * lanes + k < sets_of p.user * sets_of p.object
    → Stands (held_or_senior (side_of x.side).lines) (in_block users x.blocks b) k ((q * x.blocks * lanes + k) / 2 ^ total p.object % 2 ^ total p.user)
    → let i = (q * x.blocks + b) * lanes + k in InBlock p users x.others x.blocks b k (at (i / sets_of p.object) (i % sets_of p.object))
lane-stands p x r t users q b k hb hk h stand =
    let e : x.blocks ≡ blocks_of (total p.object) = rw t at r.blocks in
    let w : b < blocks_of (total p.object) = omega (arith, e) in
    let side : p.user ≡ side_of x.side = rw t at r.side in
    let u : ((q * blocks_of (total p.object) + b) * lanes + k) / sets_of p.object < sets_of p.user =
    (div-lt_iff_lt-mul (pow_pos (total p.object))).1 (rw e at h) in
    let high = row-high (total p.object) q b k w hk in
    record {
      lane = hk;
      user = rw (e, ap (λ (s : Side). s.lines) side) (rw (e, ← high, mod-eq_of_lt u) at stand);
      object = rw (e, row_low (total p.object) q b k w hk) ((rw t at r.others) b k w hk);
    }

-- a row of blocks has some lane
some-lanes : (p : Policy) (x : Rows) → RowsOf p x → 0 < x.blocks * lanes
unfolding blocks_of
some-lanes p x r = let some : 0 < x.blocks = rw r.blocks (pow_pos _) in omega (arith, some)

pub overflow_mul-row : goal.overflow_mul-row
overflow_mul-row c = let s = c.requires.1 in omega (arith, row-blocks s.0 _ s.1)

pub div_ceil-q-end-requires : goal.div_ceil-q-end-requires
div_ceil-q-end-requires c = let s = c.requires.1 in some-lanes s.0 _ s.1

pub put_over-requires : goal.put_over-requires
put_over-requires c = let s = c.requires.1 in (row-blocks s.0 _ s.1, c.loop-q.invariant.1)

pub invariant_of-pairs : goal.invariant_of-pairs
invariant_of-pairs c =
    let s = c.requires.1 in
    let r = blocks-room _ (row-blocks s.0 _ s.1) in
    record { users_fit = omega (arith, r, c.put_over.ensures.0); objects_fit = omega (arith, r, s.1.long) }

pub loop-q-preserved : goal.loop-q-preserved
loop-q-preserved c =
    let l = c.loop-q in let from = c.args.from.now in let v = c.args.view in let t = c.requires.1 in
    let first : l.q * (from.blocks * lanes) < v.rows * v.columns =
    begun l.q _ _ (some-lanes t.0 _ t.1) (omega (arith, c.div_ceil-q-end.ensures, c.loop-q-test.true)) in
    let m = c.min-m.ensures in let x = c.put_blocks.ensures in let g = c.put_granted in let o = c.put_over in (
      x.0 ∙ l.invariant.0,
      o.ensures.0,
      g.ensures.0 ∙ l.invariant.2,
      λ p rows size i h k.
          x.1 (numbered p) (λ j b. l.invariant.3 p rows size j b (omega (arith, first)))
          (λ b k hb hk hm.
          let e : l.q * (from.blocks * lanes) + (b * lanes + k) ≡ (l.q * from.blocks + b) * lanes + k = omega arith in
          let stands = rw (c.total-object_values.ensures p.object rows.sides.object, c.total-user_values.ensures p.user rows.sides.user)
          at (stands-moved (λ v w. o.ensures.1 b v hb w) (c.closed-block.ensures k _ (c.part-part.ensures k hk))) in
          let lane = lane-stands p from rows c.requires.0 o.new.vectors l.q b k hb hk (omega (arith, e, size, m, first)) stands in
          rw (e, rows.actions)
          (lane-entry p _ rows.grants (in_block g.new.granted from.blocks b) k _ (g.ensures.1 b hb p k _ (rows.sides, lane) rows.grants)))
          i (omega (arith, m, first)),
    )

pub returns : goal.returns
returns c =
    let a = c.args in
    let t = c.requires.1 in
    let row : ℕ = a.from.now.blocks * lanes in
    let places : ℕ = a.view.rows * a.view.columns in
    let all : (places / row + min 1 (places % row)) * row ≤ c.loop-q.q * row =
    mul-le-mul (omega (arith, c.div_ceil-q-end.ensures, c.loop-q-test.false)) (le_refl row) in
    λ p rows v u o hu ho.
    let b : u * a.view.columns + o < places = digits_lt hu ho in
    ap (λ (y : ℕ). get_or c.loop-q.grid y 0) (row-place v u o)
    ∙ c.loop-q.invariant.3 p rows (ap₂ (λ (a b : ℕ). a * b) v.users v.objects) _ (omega (arith, all, (div_ceil_times places row (some-lanes t.0 _ t.1)).0)) b
    ∙ rw (← v.objects) (ap₂ (λ (a b : ℕ). entry_of p (at a b)) (digits_div u ho) (digits_mod u ho))
