-- `formula::blocks::source_of` meets its contract: the blocks are those of all the object side's values.
use mathlib.Core.Path.{◌≡◌, refl, ap, ◌∙◌}
use mathlib.Core.List.{[]}
use native.Mathlib.Omega.{arith}
use Rattle.policy.specs.Policy.{Policy, total}
use Rattle.policy.specs.Value.{side_of}
use Rattle.policy.specs.declared.value.SideValue.{SideValue}
use Rattle.formula.specs.Inner.Source.{blocks_of}
use Rattle.formula.proofs.blocks.source_of.Goals as goal

-- a policy with these sides, and nothing else
abbrev bare : SideValue → SideValue → Policy
bare user object = record { form = 0; user = side_of user; object = side_of object; users = []; objects = []; conflicts = []; rules = []; pairs = [] }

object-total : (c : goal.After-total) → c.total.result ≡ total (side_of c.args.object)
object-total c =
    let a = c.args in c.total.ensures (side_of a.object) (c.of_sides-sides.ensures (bare a.user a.object) refl refl).object

pub blocks_of-requires : goal.blocks_of-requires
blocks_of-requires c = omega (arith, object-total c, c.requires.1.most)

pub returns : goal.returns
returns c = (c.of_sides-sides.ensures, refl, c.blocks_of.ensures ∙ ap blocks_of (object-total c.before))
