-- `labels::buffers::put_table` meets its contract: a turn of the inner loop fills one place, one of the outer a row.
use Prim.Native.Nat.{ℕ, ◌+◌, ◌*◌, ◌<◌}
use mathlib.Core.Path.{◌≡◌, refl, sym, ap, ap₂, ◌∙◌}
use native.Mathlib.Nat.{lt_of_lt_of_le}
use native.Mathlib.Omega.{arith}
use lib.Arith.{digits_lt, digits_div, digits_mod}
use lib.ListN.{length, get_or}
use Rattle.std.proofs.Common.{map}
use Rattle.std.proofs.lemmas.List.{length-map}
use Rattle.basis.proofs.Filled.{filled_none, filled-count, filled-same, filled-over, in_row, further-none, further-more, further-count}
use Rattle.policy.specs.Policy.{Policy}
use Rattle.formula.specs.Truth.{at}
use Rattle.labels.specs.Compile.{entry_of}
use Rattle.labels.proofs.Storing.{entry-narrow}
use Rattle.labels.proofs.Turn.{leading-row, leading-label}
use Rattle.labels.proofs.buffers.put_table.Invariants.{Of}
use Rattle.labels.proofs.buffers.put_table.Goals as goal

pub has_room-kept-requires : goal.has_room-kept-requires
has_room-kept-requires g c = let v = c.requires.user_value.1.2 in (v.few-users, v.few-objects)

pub loop-k-init : goal.loop-k-init
loop-k-init g c = (omega arith, λ p x. filled-count (filled_none _ _) (omega arith))

pub bounds-users-k : goal.bounds-users-k
bounds-users-k g c = omega (arith, c.loop-k-test.true, c.requires.user_value.2)

pub bounds-users-u : goal.bounds-users-u
bounds-users-u g c = lt_of_lt_of_le (leading-row c.requires.leading.0 c.loop-k-test.true refl) c.requires.user_value.1.2.few-users

pub take_row-requires : goal.take_row-requires
take_row-requires g c =
    let s = c.requires.user_value in
    (s.0, (s.1.0, s.1.1, s.1.2.objects), lt_of_lt_of_le (leading-row c.requires.leading.0 c.loop-k-test.true refl) s.1.2.few-users)

pub loop-l-init : goal.loop-l-init
loop-l-init g c = (omega arith, λ p x. further-count (further-none _ _ _) (omega arith))

pub bounds-objects-l : goal.bounds-objects-l
bounds-objects-l g c = omega (arith, c.loop-l-test.true, c.requires.user_value.3)

pub bounds-objects-o : goal.bounds-objects-o
bounds-objects-o g c = lt_of_lt_of_le (leading-row c.requires.leading.1 c.loop-l-test.true refl) c.requires.user_value.1.2.few-objects

pub entry_of-x-requires : goal.entry_of-x-requires
entry_of-x-requires g c = (c.has_room-kept.ensures, (_, c.requires.user_value.1.2), leading-row c.requires.leading.0 c.loop-k-test.true refl, leading-row c.requires.leading.1 c.loop-l-test.true refl)

pub put-requires : goal.put-requires
put-requires g c =
    let a = c.args in
    let l = c.loop-l in
    let n : ℕ = a.objects.now.count in
    let s = c.requires.user_value in
    let hk = c.loop-k-test.true in
    let hl = c.loop-l-test.true in
    -- the labels that were read are those whose turn it is, so the place is the next, and it is in the buffer
    let next : c.place-at.result ≡ c.loop-k.k * n + l.l = c.place-at.ensures
    ∙ ap₂ (λ (x y : ℕ). x * n + y)
    (leading-label c.requires.leading.0 hk refl refl)
    (leading-label c.requires.leading.1 hl refl refl) in
    let x : Of s.1.0 a.from.now a.view a.grid.now = record { rows = s.1.1; seen = s.1.2; kept = s.1.3 } in
    let room : c.loop-k.k * n + l.l < length (map g.E.Stored.number l.table) =
    omega (arith, (l.invariant.1 _ x).size, (c.loop-k.invariant.1 _ x).size, length-map a.table.now g.E.Stored.number, s.4, digits_lt hk hl) in
    -- what is put is the entry of the two sets
    let entry-is : (p : Policy) → Of p a.from.now a.view a.grid.now → c.entry_of-x.result ≡ entry_of p (at (get_or a.users.now.leaders c.loop-k.k 0) (get_or a.objects.now.leaders c.loop-l.l 0)) =
    λ p x. c.entry_of-x.ensures p x.kept (c.take_row.ensures p x.rows x.seen.objects) in
    (rw next (simp length-map at room), rw (entry-is _ x) (entry-narrow s.1.0 _ _ (rw (← s.1.1.actions) s.5)))

pub overflow_step-l : goal.overflow_step-l
overflow_step-l g c = omega (arith, c.loop-l-test.true, c.requires.user_value.3)

pub loop-l-preserved : goal.loop-l-preserved
loop-l-preserved g c =
    let a = c.args in
    let l = c.loop-l in
    let n : ℕ = a.objects.now.count in
    let s = c.requires.user_value in
    let hk = c.loop-k-test.true in
    let hl = c.loop-l-test.true in
    -- the labels that were read are those whose turn it is, so the place is the next, and it is in the buffer
    let next : c.place-at.result ≡ c.loop-k.k * n + l.l = c.place-at.ensures
    ∙ ap₂ (λ (x y : ℕ). x * n + y)
    (leading-label c.requires.leading.0 hk refl refl)
    (leading-label c.requires.leading.1 hl refl refl) in
    let x : Of s.1.0 a.from.now a.view a.grid.now = record { rows = s.1.1; seen = s.1.2; kept = s.1.3 } in
    let room : c.loop-k.k * n + l.l < length (map g.E.Stored.number l.table) =
    omega (arith, (l.invariant.1 _ x).size, (c.loop-k.invariant.1 _ x).size, length-map a.table.now g.E.Stored.number, s.4, digits_lt hk hl) in
    -- what is put is the entry of the two sets
    let entry-is : (p : Policy) → Of p a.from.now a.view a.grid.now → c.entry_of-x.result ≡ entry_of p (at (get_or a.users.now.leaders c.loop-k.k 0) (get_or a.objects.now.leaders c.loop-l.l 0)) =
    λ p x. c.entry_of-x.ensures p x.kept (c.take_row.ensures p x.rows x.seen.objects) in
    let k = c.loop-k.k in (
      omega arith,
      λ p x. further-count
          (rw (← c.put.ensures) at
          (further-more (l.invariant.1 p x) next room
          (entry-is p x
          ∙ ap₂ (λ (y z : ℕ). entry_of p (at y z))
          (refl ∙ ap (λ (y : ℕ). get_or a.users.now.leaders y 0) (sym (digits_div k hl)))
          (refl ∙ ap (λ (y : ℕ). get_or a.objects.now.leaders y 0) (sym (digits_mod k hl))))))
          (omega arith),
    )

pub loop-k-preserved : goal.loop-k-preserved
loop-k-preserved g c =
    let l = c.loop-k in
    let m = c.loop-l.invariant in
    let q : c.loop-l.l ≡ c.args.objects.now.count = omega (arith, m.0) in (
      omega arith,
      λ p x. filled-count ((m.1 p x).filled _ (l.invariant.1 p x)) (omega arith),
    )

pub returns : goal.returns
returns g c =
    let n = c.args.objects.now.count in
    let q : c.loop-k.k ≡ c.args.users.now.count = omega (arith, c.loop-k.invariant.0) in
    λ p rows seen kept f h.
    filled-over
    (filled-same (filled-count (c.loop-k.invariant.1 p (record { rows = rows; seen = seen; kept = kept })) (ap (λ (x : ℕ). x * n) q)) (λ i l.
    let r = in_row c.args.users.now.count n i l in
    h _ _ r.0 r.1))
    (simp length-map c.requires.user_value.4)
