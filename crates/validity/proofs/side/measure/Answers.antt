-- `validity::side::measure` meets its contract: the widths before place i pass and sum to `total`.
use mathlib.Core.Path.{refl, sym, ◌∙◌}
use mathlib.Core.Bool.{and-false}
use native.Mathlib.Omega.{arith}
use lib.Dec.{eqb}
use Rattle.std.proofs.Common.{rules}
use Rattle.validity.proofs.Widths.{summed_none, summed_all, summed_not, summed_more, sum_bound}
use Rattle.validity.proofs.Stored.{eqb_swap, widths-none, widths-many, widths-in, widths-left}
use Rattle.validity.proofs.side.measure.Goals as goal

pub returns-then-n-lt1 : goal.returns-then-n-lt1
returns-then-n-lt1 c = sym (widths-none _ _ _ (search rules) c.if-n-lt1.true)

pub returns-then-n-gt-WIDTH_PLACES : goal.returns-then-n-gt-WIDTH_PLACES
returns-then-n-gt-WIDTH_PLACES c = sym (widths-many _ _ _ (search rules) c.if-n-gt-WIDTH_PLACES.true)

pub loop-w-init : goal.loop-w-init
loop-w-init c = summed_none

pub returns-then-not-width_fits : goal.returns-then-not-width_fits
returns-then-not-width_fits c =
    let a = c.args in
    rw (
      widths-in a.most a.widths.now a.n (search rules) c.if-n-lt1.false c.if-n-gt-WIDTH_PLACES.false,
      summed_not c.loop-w.invariant c.loop-w-test.true refl c.width_fits.ensures c.if-not-width_fits.true,
      and-false,
    )

pub overflow_add-total : goal.overflow_add-total
overflow_add-total c = omega (arith, sum_bound _ _ _ c.width_fits.ensures c.if-not-width_fits.false)

pub loop-w-preserved : goal.loop-w-preserved
loop-w-preserved c = summed_more c.loop-w.invariant c.loop-w-test.true refl c.width_fits.ensures c.if-not-width_fits.false

pub returns-then-not-all_blank : goal.returns-then-not-all_blank
returns-then-not-all_blank c =
    let a = c.args in
    widths-left a.most a.widths.now a.n (search rules) c.if-n-lt1.false c.if-n-gt-WIDTH_PLACES.false
    (summed_all c.loop-w.invariant c.loop-w-test.false).0 (c.all_blank.ensures (eqb 0) (λ x r k. search (rules, eqb_swap)))
    ∙ c.if-not-all_blank.true

pub of-requires : goal.of-requires
of-requires c =
    let h = c.loop-w.invariant in (
      c.if-n-gt-WIDTH_PLACES.false,
      omega (arith, h.small, (summed_all h c.loop-w-test.false).1),
    )

pub returns : goal.returns
returns c =
    let a = c.args in
    let h = c.loop-w.invariant in
    let e = summed_all h c.loop-w-test.false in
    let s = c.of.ensures in (
      widths-left a.most a.widths.now a.n (search rules) c.if-n-lt1.false c.if-n-gt-WIDTH_PLACES.false e.0 (c.all_blank.ensures (eqb 0) (λ x r k. search (rules, eqb_swap)))
          ∙ c.if-not-all_blank.false,
      s.0,
      s.1,
      s.2,
      omega (arith, h.small, e.1, s.2),
    )
