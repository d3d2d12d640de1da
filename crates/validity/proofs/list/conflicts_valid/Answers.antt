-- `validity::list::conflicts_valid` meets its contract: it is the test of its list.
use mathlib.Core.Path.{sym, ◌∙◌}
use Rattle.std.proofs.Common.{rules}
use Rattle.basis.proofs.Lists.{long}
use Rattle.policy.specs.Policy.{conflict}
use Rattle.policy.specs.Checks.{conflict_fits}
use Rattle.policy.specs.Valid.{same_conflict}
use Rattle.validity.proofs.Stored.{blank-two, conflicts-are}
use Rattle.validity.proofs.list.conflicts_valid.Goals as goal

pub returns : goal.returns
returns c =
    c.list_valid.ensures (conflict_fits c.args.user.now.total) (same_conflict (conflict 0 0)) (λ x r k. search rules) (λ x r k. search (rules, blank-two))
    ∙ sym (conflicts-are c.args.user.now.total c.args.x.now (search (rules, long)))
