-- `validity::list::pairs_valid` meets its contract: it is the test of its list.
use mathlib.Core.Path.{sym, ◌∙◌}
use Rattle.std.proofs.Common.{rules}
use Rattle.basis.proofs.Lists.{long}
use Rattle.policy.specs.Policy.{pair}
use Rattle.policy.specs.Checks.{pair_fits}
use Rattle.policy.specs.Valid.{same_pair}
use Rattle.checks.specs.Inner.{both_in}
use Rattle.validity.proofs.Stored.{blank-pair, pairs-are}
use Rattle.validity.proofs.list.pairs_valid.Goals as goal

pub returns : goal.returns
returns c =
    c.list_valid.ensures (pair_fits c.args.actions c.args.shapes.now.user.total c.args.shapes.now.object.total) (same_pair (pair 0 0 0)) (λ x r k. search rules) (λ x r k. search (rules, blank-pair))
    ∙ sym (pairs-are c.args.actions (both_in c.args.shapes.now) c.args.x.now (search (rules, long)))
