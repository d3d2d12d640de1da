-- `checks::shape::Shapes::all_widths_equal` meets its contract: its chain tests each word.
use Prim.Native.Nat.{ℕ}
use mathlib.Core.Path.{◌∙◌}
use Rattle.std.proofs.Common.{rules}
use Rattle.std.proofs.lemmas.Iterator.{YieldsList-from_slice}
use Rattle.std.proofs.lemmas.Iterator.Search.{all_from_yields_List}
use Rattle.words.specs.Word.{numbered}
use Rattle.policy.specs.Checks.{widths_equal}
use Rattle.checks.specs.Inner.{both_in}
use Rattle.checks.proofs.Words.{all-chain}
use Rattle.checks.proofs.shape.Shapes.all_widths_equal.Goals as goal

pub returns : goal.returns
returns c =
    all_from_yields_List (λ (n : ℕ). widths_equal (both_in c.args.self.now) (numbered n)) _ _ _ c.all.ensures.ran (YieldsList-from_slice c.args.words.now cc) (λ x b q k. search rules)
    ∙ all-chain _ _
