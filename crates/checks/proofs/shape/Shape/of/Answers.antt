-- `checks::shape::Shape::of` meets its contract: its chain sums the widths.
use Prim.Native.Nat.{ℕ, ◌<◌, ◌^◌}
use mathlib.Core.Path.{refl, sym, subst, ◌∙◌}
use lib.ListN.{take}
use Rattle.std.proofs.lemmas.Iterator.{YieldsList-from_slice}
use Rattle.std.proofs.lemmas.Iterator.Consumers.{sum_from_yields_List, fits_from_yields_list}
use Rattle.checks.proofs.Laws.{sum-chain}
use Rattle.checks.proofs.shape.Shape.of.Goals as goal

pub sum-total-requires-clause-fits : goal.sum-total-requires-clause-fits
sum-total-requires-clause-fits c =
    fits_from_yields_list _ _ (YieldsList-from_slice (take c.args.attributes c.args.widths) cc)
    (subst (λ (n : ℕ). n < 2 ^ 32) (sym (sum-chain (take c.args.attributes c.args.widths))) c.requires.1)

pub returns : goal.returns
returns c = (
  refl,
  refl,
  sum_from_yields_List _ _ c.sum-total.ensures.ran (YieldsList-from_slice (take c.args.attributes c.args.widths) cc)
      ∙ sum-chain (take c.args.attributes c.args.widths),
)
