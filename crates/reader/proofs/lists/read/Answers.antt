-- `reader::lists::read` meets its contract: each list starts where the one before it ends.
use native.Mathlib.Omega.{arith}
use Rattle.std.proofs.lemmas.Result.{err_from_is_err_and, MatchResult-weaker}
use Rattle.reader.proofs.Whole.{blank-users, blank-objects, blank-conflicts, blank-rules, blank-pairs, users-refused, objects-refused, conflicts-refused, rules-refused, pairs-refused, lists-read}
use Rattle.reader.proofs.lists.read.Goals as goal

pub read-requires : goal.read-requires
read-requires c = let h = c.requires.1 in (h.lines.stands, omega arith, h.user-shape.small, blank-users h)

pub returns-in_err-c : goal.returns-in_err-c
returns-in_err-c c =
    λ i h. let p = err_from_is_err_and c.from_residual.result c.from_residual.ensures.1 in
    rw (p.1, p.2) (users-refused h _ c.in_err-c.ensures)

pub read-requires-2 : goal.read-requires-2
read-requires-2 c = (c.in_ok-c.ensures.lines.stands, omega arith, c.requires.1.object-shape.small, blank-objects c.requires.1)

pub returns-in_err-c-2 : goal.returns-in_err-c-2
returns-in_err-c-2 c =
    λ i h. let p = err_from_is_err_and c.from_residual-in_err-c-2.result c.from_residual-in_err-c-2.ensures.1 in
    rw (p.1, p.2) (objects-refused h c.in_ok-c.ensures _ c.in_err-c-2.ensures)

pub read-requires-3 : goal.read-requires-3
read-requires-3 c = (c.in_ok-c-2.ensures.lines.stands, c.requires.1.user-shape.small, blank-conflicts c.requires.1)

pub returns-in_err-c-3 : goal.returns-in_err-c-3
returns-in_err-c-3 c =
    λ i h. let p = err_from_is_err_and c.from_residual-in_err-c-3.result c.from_residual-in_err-c-3.ensures.1 in
    rw (p.1, p.2) (conflicts-refused h c.in_ok-c.ensures c.in_ok-c-2.ensures _ c.in_err-c-3.ensures)

pub read-requires-4 : goal.read-requires-4
read-requires-4 c = (c.in_ok-c-3.ensures.lines.stands, blank-rules c.requires.1)

pub returns-in_err-c-4 : goal.returns-in_err-c-4
returns-in_err-c-4 c =
    λ i h. let p = err_from_is_err_and c.from_residual-in_err-c-4.result c.from_residual-in_err-c-4.ensures.1 in
    rw (p.1, p.2) (rules-refused h c.in_ok-c.ensures c.in_ok-c-2.ensures c.in_ok-c-3.ensures _ c.in_err-c-4.ensures)

pub read-requires-5 : goal.read-requires-5
read-requires-5 c = (c.in_ok-c-4.ensures.lines.stands, blank-pairs c.requires.1)

pub returns : goal.returns
returns c =
    λ i h.
    MatchResult-weaker c.read-5.result c.read-5.ensures
    (λ d q. lists-read h c.in_ok-c.ensures c.in_ok-c-2.ensures c.in_ok-c-3.ensures c.in_ok-c-4.ensures c.actions-actions.ensures q)
    (λ e r. pairs-refused h c.in_ok-c.ensures c.in_ok-c-2.ensures c.in_ok-c-3.ensures c.in_ok-c-4.ensures c.actions-actions.ensures e r)
