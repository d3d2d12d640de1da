-- `validity::list::no_rule` meets its contract: its numbers are 0 and its words blank.
use native.Mathlib.Omega.{arith}
use lib.Dec.{eqb}
use Rattle.std.proofs.Common.{rules}
use Rattle.std.proofs.lemmas.Bool.Decides.{nat_tests}
use Rattle.validity.proofs.Stored.{eqb_swap, blank-rule}
use Rattle.validity.proofs.list.no_rule.Goals as goal

pub returns-then-x-eq0-2 : goal.returns-then-x-eq0-2
returns-then-x-eq0-2 c =
    let e = c.all_blank.ensures (eqb 0) (λ x r k. search (rules, eqb_swap)) in
    rw (blank-rule c.args.x.now (search rules)) (grind (arith, nat_tests, e))

pub returns-else-x-eq0-2 : goal.returns-else-x-eq0-2
returns-else-x-eq0-2 c = rw (blank-rule c.args.x.now (search rules)) (grind (arith, nat_tests))
