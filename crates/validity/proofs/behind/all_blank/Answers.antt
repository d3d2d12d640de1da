-- `validity::behind::all_blank` meets its contract: `blank` says whether the places before place i are.
use mathlib.Core.Path.{refl, sym, ◌∙◌}
use Rattle.std.proofs.lemmas.Fn.{says_at}
use Rattle.validity.proofs.Blank.{blank-next, blank-end}
use Rattle.validity.proofs.behind.all_blank.Goals as goal

pub loop-x-init : goal.loop-x-init
loop-x-init g c = λ test says. refl

pub loop-x-preserved : goal.loop-x-preserved
loop-x-preserved g c = λ test says.
    c.loop-x.invariant test says
    ∙ blank-next test _ _ _ c.loop-x-test.true c.x-item.is (says _ _ (says_at g.B.Fn c.is_blank-blank.ensures refl))

pub returns : goal.returns
returns g c = λ test says. sym (c.loop-x.invariant test says ∙ blank-end test _ _ _ c.loop-x-test.false)
