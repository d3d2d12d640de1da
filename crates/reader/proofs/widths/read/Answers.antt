-- `reader::widths::read` meets its contract: what is held stands for the widths read, and each line leaves less.
use mathlib.Core.Path.{sym, ◌∙◌}
use native.Mathlib.Omega.{arith}
use Rattle.basis.specs.Lists.{padded}
use Rattle.std.proofs.lemmas.Result.{err_from_is_err_and}
use Rattle.reader.proofs.Cursors.{ahead_there, next-less}
use Rattle.reader.proofs.WidthLines.{no_widths, widths-sum, widths-read, width_room, width-sum, width-more, width-out, width-next}
use borrow.Author.Rules.{rules}
use Rattle.reader.proofs.widths.read.Goals as goal

pub loop-kind-init : goal.loop-kind-init
unfolding padded
loop-kind-init c = no_widths _ _ _ _ c.requires.0

pub returns-then-not-width_fits : goal.returns-then-not-width_fits
returns-then-not-width_fits c =
    rw c.refused.ensures
    (width-out c.loop-kind.invariant (ahead_there _ _ _ c.is_at.ensures c.loop-kind-test.true) _ c.width_fits.ensures c.if-not-width_fits.true)

pub offset_bounds-widths-attributes : goal.offset_bounds-widths-attributes
offset_bounds-widths-attributes c = let h = width_room c.loop-kind.invariant _ _ c.width_fits.ensures c.if-not-width_fits.false c.requires.1 in search rules

pub bounds-widths-attributes : goal.bounds-widths-attributes
bounds-widths-attributes c = width_room c.loop-kind.invariant _ _ c.width_fits.ensures c.if-not-width_fits.false c.requires.1

pub overflow_add-attributes : goal.overflow_add-attributes
overflow_add-attributes c = let h = width_room c.loop-kind.invariant _ _ c.width_fits.ensures c.if-not-width_fits.false c.requires.1 in search rules

pub overflow_add-total : goal.overflow_add-total
overflow_add-total c = let h = width-sum c.loop-kind.invariant _ _ c.width_fits.ensures c.if-not-width_fits.false in omega (arith, h, c.requires.1)

pub next-requires : goal.next-requires
next-requires c = (c.loop-kind.invariant.lines.stands, search ahead_there)

pub returns-in_err-c : goal.returns-in_err-c
returns-in_err-c c =
    let p = err_from_is_err_and c.from_residual.result c.from_residual.ensures.1 in
    rw (p.1, p.2)
    (width-next c.loop-kind.invariant (ahead_there _ _ _ c.is_at.ensures c.loop-kind-test.true) _ c.width_fits.ensures c.if-not-width_fits.false _ c.in_err-c.ensures)

pub loop-kind-smaller : goal.loop-kind-smaller
loop-kind-smaller c =
    next-less c.args.text.now c.loop-kind.c c.args.kind c.in_ok-c.c (ahead_there _ _ _ c.is_at.ensures c.loop-kind-test.true) c.loop-kind.invariant.lines.stands c.in_ok-c.ensures

pub loop-kind-preserved : goal.loop-kind-preserved
loop-kind-preserved c =
    width-more c.loop-kind.invariant (ahead_there _ _ _ c.is_at.ensures c.loop-kind-test.true) _ c.width_fits.ensures c.if-not-width_fits.false c.requires.1 _ c.in_ok-c.ensures

pub of-requires : goal.of-requires
of-requires c =
    let h = c.loop-kind.invariant in (
      omega (arith, h.count, h.few, h.small, c.requires.1),
      omega (arith, widths-sum h, h.total, h.small, c.requires.1),
    )

pub returns : goal.returns
returns c =
    let s = c.of.ensures in
    widths-read c.loop-kind.invariant c.of.result s.0 s.1 s.2 c.requires.1 (sym c.is_at.ensures ∙ c.loop-kind-test.false)
