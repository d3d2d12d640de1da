-- `formula::pairs::none_paired` meets its contract: r is 0 exactly where the sets before v are.
use mathlib.Core.Path.{refl, ap, ◌∙◌}
use mathlib.Core.Bool.{Bool, ◌&&◌}
use native.Mathlib.Numerals.{add-one}
use native.Mathlib.Omega.{arith}
use lib.Dec.{eqb}
use lib.ListN.{get_or}
use Rattle.basis.specs.Numbers.{every}
use Rattle.validity.proofs.Stored.{zero-both}
use Rattle.formula.proofs.pairs.none_paired.Goals as goal

pub loop-v-init : goal.loop-v-init
unfolding every
loop-v-init c = (omega arith, refl)

pub loop-v-preserved : goal.loop-v-preserved
unfolding every
loop-v-preserved c =
    let l = c.loop-v in let x = get_or c.args.paired l.v 0 in
    (omega arith, rw (add-one l.v) (zero-both l.r x ∙ ap (λ (b : Bool). b && eqb x 0) l.invariant.1))
