-- `labels::classify::label_of` meets its contract: the leaders passed are unlike the row, and the next had its label and
-- is like it before column o.
use mathlib.Core.Path.{refl, sym, ◌∙◌}
use native.Mathlib.Nat.{lt_of_lt_of_le}
use native.Mathlib.Numerals.{add-one}
use native.Mathlib.Omega.{arith}
use borrow.Author.Count.{below_none}
use borrow.Author.Rules.{rules}
use Rattle.labels.specs.Inner.Grid.{joined}
use Rattle.labels.proofs.Alike.{none-like, compare_none, compare_more, passed-more, found-like}
use Rattle.labels.proofs.classify.Classes.label_of.Goals as goal

pub next-init : goal.next-init
next-init c = record { within = search rules; before = below_none _ }

pub bounds-before-v : goal.bounds-before-v
bounds-before-v c = let s = c.requires in lt_of_lt_of_le (s.3 _ c.next-test.true) s.0.few-rows

pub offset_bounds-before-u : goal.offset_bounds-before-u
offset_bounds-before-u c = let s = c.requires in omega (arith, s.1, s.0.few-rows)

pub bounds-before-u : goal.bounds-before-u
bounds-before-u c = let s = c.requires in lt_of_lt_of_le s.1 s.0.few-rows

pub next-preserved-then-before-v : goal.next-preserved-then-before-v
unfolding joined
next-preserved-then-before-v c = passed-more (compare_none c.next.invariant c.next-test.true refl) (omega arith) c.if-before-v.true

pub loop-o-init : goal.loop-o-init
unfolding joined
loop-o-init c = (refl, compare_more (compare_none c.next.invariant c.next-test.true refl) (omega arith) c.if-before-v.false)

pub entry-requires : goal.entry-requires
entry-requires c =
    let s = c.requires in
    let i = c.loop-o.invariant.1 in
    (s.0, rw i.row (s.3 c.next.l i.under), c.loop-o-test.true)

pub entry-requires-in-loop-o : goal.entry-requires-in-loop-o
entry-requires-in-loop-o c = let s = c.requires in (s.0, s.1, c.loop-o-test.true)

pub next-preserved : goal.next-preserved
unfolding joined
next-preserved c =
    let l = c.loop-o in
    passed-more l.invariant.1 (omega (arith, c.loop-o-test.true)) (λ q.
    let e = rw (add-one l.o) at q in
    c.if-entry.true (c.entry.ensures ∙ e ∙ sym c.entry-in-loop-o.ensures))

pub loop-o-preserved : goal.loop-o-preserved
unfolding joined
loop-o-preserved c =
    let l = c.loop-o in
    (l.invariant.0, compare_more l.invariant.1 (omega (arith, c.loop-o-test.true)) (rw (add-one l.o) (sym c.entry.ensures ∙ c.if-entry.false ∙ c.entry-in-loop-o.ensures)))

pub returns-in-next : goal.returns-in-next
returns-in-next c = found-like c.loop-o.invariant.1 (omega (arith, c.loop-o-test.false))

pub returns : goal.returns
returns c = none-like c.next.invariant c.next-test.false
