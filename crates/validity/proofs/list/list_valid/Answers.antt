-- `validity::list::list_valid` meets its contract: the elements before place i pass, and `before` is the last of them.
use mathlib.Core.Path.{refl, ap, ◌∙◌}
use mathlib.Core.Bool.{and-false, and-true}
use borrow.Author.Tests.{lt-leb, le-leb}
use Rattle.basis.specs.Lists.{all}
use Rattle.std.proofs.lemmas.Fn.{says_at}
use Rattle.validity.proofs.Blank.{whole}
use Rattle.validity.proofs.Rising.{rising-next, rising-end}
use Rattle.validity.proofs.list.list_valid.Goals.{then-not-fits-via-then-not-fits, then-not-fits-via-else-not-fits+then-not-rises}
use Rattle.validity.proofs.list.list_valid.Goals as goal

pub returns-then-places-count : goal.returns-then-places-count
returns-then-places-count g c = λ f b says blank. rw (lt-leb _ _ c.if-places-count.true)

pub loop-x-init : goal.loop-x-init
loop-x-init g c = λ f says. refl

pub returns-then-not-fits : goal.returns-then-not-fits
returns-then-not-fits g c = λ f b says blank.
    let t = c.loop-x.invariant f says in
    let fit = says _ _ (says_at g.F.Fn c.fits.ensures refl) in
    elim c.then-not-fits.branch [
      | then-not-fits-via-then-not-fits w ↦
          rw (t, rising-next f g.T.Rising.above _ _ _ c.loop-x-test.true c.x-item.is fit refl, w.if-not-fits.true, and-false, and-false)
      | then-not-fits-via-else-not-fits+then-not-rises w ↦
          rw (t, rising-next f g.T.Rising.above _ _ _ c.loop-x-test.true c.x-item.is fit w.rises.ensures, w.if-not-rises.true, and-false, and-false, and-false)
    ]

pub loop-x-preserved : goal.loop-x-preserved
loop-x-preserved g c = λ f says.
    c.loop-x.invariant f says
    ∙ rising-next f g.T.Rising.above _ _ _ c.loop-x-test.true c.x-item.is (says _ _ (says_at g.F.Fn c.fits.ensures refl)) c.rises.ensures
    ∙ rw (c.if-not-fits.false, c.if-not-rises.false)

pub returns : goal.returns
returns g c = λ f b says blank.
    rw (le-leb _ _ c.if-places-count.false, c.loop-x.invariant f says, rising-end f g.T.Rising.above _ _ _ c.loop-x-test.false, and-true)
    (c.all_blank.ensures b blank ∙ ap (all b) (whole c.args.places.now c.args.count _ refl))
