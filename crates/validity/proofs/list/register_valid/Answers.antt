-- `validity::list::register_valid` meets its contract: it is the test of its list.
use mathlib.Core.Path.{sym, ◌∙◌}
use Rattle.std.proofs.Common.{rules}
use Rattle.basis.proofs.Lists.{long}
use Rattle.policy.specs.Value.{no_entry}
use Rattle.policy.specs.Valid.{same_entry}
use Rattle.policy.specs.Inner.Sound.{number_in}
use Rattle.validity.proofs.Stored.{blank-two, entries-are}
use Rattle.validity.proofs.list.register_valid.Goals as goal

pub returns : goal.returns
returns c =
    c.list_valid.ensures (number_in c.args.numbers c.args.side.now.total) (same_entry no_entry) (λ x r k. search rules) (λ x r k. search (rules, blank-two))
    ∙ sym (entries-are c.args.numbers c.args.side.now.total c.args.x.now (search (rules, long)))
