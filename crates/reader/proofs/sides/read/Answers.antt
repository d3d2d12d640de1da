-- `reader::sides::read` meets its contract: each list starts where the one before it ends.
use Rattle.std.proofs.lemmas.Result.{err_from_is_err_and}
use Rattle.reader.proofs.Whole.{most-small, blank-user, blank-object, uattr-refused, oattr-refused, usen-refused, osen-refused, sides-read}
use Rattle.reader.proofs.sides.read.Goals as goal

pub read-requires : goal.read-requires
read-requires c = (c.requires.0.1.stands, most-small _ _ c.values-most.ensures)

pub returns-in_err-user : goal.returns-in_err-user
returns-in_err-user c =
    λ i h. let p = err_from_is_err_and c.from_residual.result c.from_residual.ensures.1 in
    rw (p.1, p.2) (uattr-refused h c.values-most.ensures _ c.in_err-user.ensures)

pub read-requires-2 : goal.read-requires-2
read-requires-2 c = (c.in_ok-user.ensures.lines.stands, most-small _ _ c.values-most.ensures)

pub returns-in_err-object : goal.returns-in_err-object
returns-in_err-object c =
    λ i h. let p = err_from_is_err_and c.from_residual-in_err-object.result c.from_residual-in_err-object.ensures.1 in
    rw (p.1, p.2) (oattr-refused h c.values-most.ensures c.in_ok-user.ensures _ c.in_err-object.ensures)

pub read-requires-3 : goal.read-requires-3
read-requires-3 c = (c.in_ok-object.ensures.lines.stands, c.in_ok-user.ensures.shape.small, blank-user c.args.policy.now c.requires.1)

pub returns-in_err-cursor : goal.returns-in_err-cursor
returns-in_err-cursor c =
    λ i h. let p = err_from_is_err_and c.from_residual-in_err-cursor.result c.from_residual-in_err-cursor.ensures.1 in
    rw (p.1, p.2) (usen-refused h c.values-most.ensures c.in_ok-user.ensures c.in_ok-object.ensures _ c.in_err-cursor.ensures)

pub read-requires-4 : goal.read-requires-4
read-requires-4 c = (c.in_ok-cursor.ensures.lines.stands, c.in_ok-object.ensures.shape.small, blank-object c.args.policy.now c.requires.1)

pub returns-in_err-cursor-2 : goal.returns-in_err-cursor-2
returns-in_err-cursor-2 c =
    λ i h. let p = err_from_is_err_and c.from_residual-in_err-cursor-2.result c.from_residual-in_err-cursor-2.ensures.1 in
    rw (p.1, p.2) (osen-refused h c.values-most.ensures c.in_ok-user.ensures c.in_ok-object.ensures c.in_ok-cursor.ensures _ c.in_err-cursor-2.ensures)

pub returns : goal.returns
returns c = λ i h. sides-read h c.values-most.ensures c.in_ok-user.ensures c.in_ok-object.ensures c.in_ok-cursor.ensures c.in_ok-cursor-2.ensures c.args.policy.now c.requires.1
