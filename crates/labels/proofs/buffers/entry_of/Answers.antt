-- `labels::buffers::entry_of` meets its contract.
use mathlib.Core.Path.{sym, ◌∙◌}
use native.Mathlib.Omega.{arith}
use borrow.Author.Tests.{leb-true}
use Rattle.labels.proofs.Grids.{view_inside}
use Rattle.labels.proofs.buffers.entry_of.Goals as goal

pub entry-requires : goal.entry-requires
entry-requires c =
    let s = c.requires in (view_inside s.1.1 (leb-true _ _ (sym s.0 ∙ c.if-kept.true)), s.2, s.3)

pub returns-then-kept : goal.returns-then-kept
returns-then-kept c = λ p kept row.
    let s = c.requires in c.entry.ensures ∙ kept (leb-true _ _ (sym s.0 ∙ c.if-kept.true)) _ _ s.2 s.3

pub bounds-row-o : goal.bounds-row-o
bounds-row-o c = let s = c.requires in omega (arith, s.3, s.1.1.few-objects)

pub returns-else-kept : goal.returns-else-kept
returns-else-kept c = λ p kept row. row c.if-kept.false _ c.requires.3
