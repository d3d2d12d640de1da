-- `reader::lines::read` meets its contract: what is held stands for the elements read, and each line leaves less.
use mathlib.Core.Path.{sym, ◌∙◌}
use native.Mathlib.Omega.{arith}
use Rattle.std.proofs.lemmas.Result.{err_from_is_err_and}
use Rattle.reader.proofs.Cursors.{ahead_there, next-less}
use Rattle.reader.proofs.RisingLines.{none-held, held-fits, held-read, held-rises, held-out, held-level, held-full, held-more, held-next}
use Rattle.reader.proofs.lines.read.Goals as goal

pub loop-kind-init : goal.loop-kind-init
loop-kind-init g c = record { stands = c.requires.1.1; within = omega arith; held = λ y. none-held _ _ _ _ _ _ _ _ c.requires.1.1 }

pub returns-then-not-fits : goal.returns-then-not-fits
returns-then-not-fits g c =
    rw c.refused.ensures
    (λ y.
    let h = c.loop-kind.invariant.held y in
    let f = held-fits _ _ _ _ h _ c.said-x.ensures _ _ c.fits.ensures c.if-not-fits.true in
    held-out _ _ _ _ h (ahead_there _ _ _ c.is_at.ensures c.loop-kind-test.true) f)

pub returns-then-not-rises : goal.returns-then-not-rises
returns-then-not-rises g c =
    rw c.refused-then-not-rises.ensures
    (λ y.
    let h = c.loop-kind.invariant.held y in
    let f = held-fits _ _ _ _ h _ c.said-x.ensures _ _ c.fits.ensures c.if-not-fits.false in
    let r = held-rises _ _ _ _ h _ c.said-x.ensures _ c.last.ensures.value _ _ c.rises.ensures c.if-not-rises.true in
    held-level _ _ _ _ h (ahead_there _ _ _ c.is_at.ensures c.loop-kind-test.true) f r)

pub returns-then-count-list : goal.returns-then-count-list
returns-then-count-list g c =
    rw c.refused-then-count-list.ensures
    (λ y.
    let h = c.loop-kind.invariant.held y in
    let f = held-fits _ _ _ _ h _ c.said-x.ensures _ _ c.fits.ensures c.if-not-fits.false in
    let r = held-rises _ _ _ _ h _ c.said-x.ensures _ c.last.ensures.value _ _ c.rises.ensures c.if-not-rises.false in
    held-full _ _ _ _ h (ahead_there _ _ _ c.is_at.ensures c.loop-kind-test.true) f r _ y (omega (arith, c.if-count-list.true, c.loop-kind.auto.list)))

pub returns-in_err-c : goal.returns-in_err-c
returns-in_err-c g c =
    let p = err_from_is_err_and c.from_residual.result c.from_residual.ensures.1 in
    rw (p.1, p.2)
    (λ y.
    let h = c.loop-kind.invariant.held y in
    let f = held-fits _ _ _ _ h _ c.said-x.ensures _ _ c.fits.ensures c.if-not-fits.false in
    let r = held-rises _ _ _ _ h _ c.said-x.ensures _ c.last.ensures.value _ _ c.rises.ensures c.if-not-rises.false in
    held-next _ _ _ _ h (ahead_there _ _ _ c.is_at.ensures c.loop-kind-test.true) f r _ y
    (omega (arith, h.within, c.if-count-list.false, c.loop-kind.auto.list)) _ c.in_err-c.ensures)

pub loop-kind-smaller : goal.loop-kind-smaller
loop-kind-smaller g c =
    next-less c.args.text.now c.loop-kind.c c.args.kind c.in_ok-c.c (ahead_there _ _ _ c.is_at.ensures c.loop-kind-test.true) c.loop-kind.invariant.stands c.in_ok-c.ensures

pub loop-kind-preserved : goal.loop-kind-preserved
loop-kind-preserved g c =
    let i = c.loop-kind.invariant in
    record {
      stands = c.in_ok-c.ensures.stands;
      within = omega (arith, i.within, c.if-count-list.false, c.loop-kind.auto.list);
      held = λ y.
          let h = i.held y in
          let f = held-fits _ _ _ _ h _ c.said-x.ensures _ _ c.fits.ensures c.if-not-fits.false in
          let r = held-rises _ _ _ _ h _ c.said-x.ensures _ c.last.ensures.value _ _ c.rises.ensures c.if-not-rises.false in
          held-more _ _ _ _ h (ahead_there _ _ _ c.is_at.ensures c.loop-kind-test.true) f r c.args.full y
          (omega (arith, i.within, c.if-count-list.false, c.loop-kind.auto.list)) _ c.in_ok-c.ensures _ c.said-x.ensures;
    }

pub returns : goal.returns
returns g c = λ y. held-read _ _ _ _ (c.loop-kind.invariant.held y) (sym c.is_at.ensures ∙ c.loop-kind-test.false)
