-- `reader::rules::read` meets its contract: what is held stands for the rules read, and each line leaves less.
use native.Mathlib.Omega.{arith}
use Rattle.std.proofs.lemmas.Result.{err_from_is_err_and}
use Rattle.reader.proofs.Cursors.{ahead_there, next-less}
use Rattle.reader.proofs.RuleLines.{no_rules_held, rule-room, rule-small, rule-more, rule-next, rule-out}
use borrow.Author.Rules.{rules}
use Rattle.reader.proofs.rules.read.Goals as goal

pub loop-action-init : goal.loop-action-init
loop-action-init c = no_rules_held _ _ _ _ _ c.requires.1 c.requires.0

pub slice_bounds-admit-count : goal.slice_bounds-admit-count
slice_bounds-admit-count c = let l = c.loop-action.invariant.lines.stands _ (ahead_there _ _ _ c.is_at.ensures c.loop-action-test.true) in omega (arith, l.from)

pub slice_bounds-admit-start : goal.slice_bounds-admit-start
slice_bounds-admit-start c = let l = c.loop-action.invariant.lines.stands _ (ahead_there _ _ _ c.is_at.ensures c.loop-action-test.true) in omega (arith, l.from, l.inside)

pub slice_bounds-admit-end : goal.slice_bounds-admit-end
slice_bounds-admit-end c = let l = c.loop-action.invariant.lines.stands _ (ahead_there _ _ _ c.is_at.ensures c.loop-action-test.true) in omega (arith, l.from, l.inside)

pub admit-requires : goal.admit-requires
admit-requires c = let l = c.loop-action.invariant.lines.stands _ (ahead_there _ _ _ c.is_at.ensures c.loop-action-test.true) in l.count

pub returns-in-Err : goal.returns-in-Err
returns-in-Err c =
    rw c.refused.ensures (rule-out c.loop-action.invariant _ c.admit.ensures (ahead_there _ _ _ c.is_at.ensures c.loop-action-test.true) _ c.in-Err.is)

pub offset_bounds-list-list : goal.offset_bounds-list-list
offset_bounds-list-list c = let h = rule-room c.loop-action.invariant _ c.admit.ensures _ c.in-Ok.is in search rules

pub bounds-list-list : goal.bounds-list-list
bounds-list-list c = rule-room c.loop-action.invariant _ c.admit.ensures _ c.in-Ok.is

pub overflow_add-list : goal.overflow_add-list
overflow_add-list c = let h = rule-room c.loop-action.invariant _ c.admit.ensures _ c.in-Ok.is in search rules

pub overflow_add-least : goal.overflow_add-least
overflow_add-least c = let h = rule-small c.loop-action.invariant _ c.admit.ensures _ c.in-Ok.is in omega (arith, h)

pub returns-in_err-c : goal.returns-in_err-c
returns-in_err-c c =
    let p = err_from_is_err_and c.from_residual.result c.from_residual.ensures.1 in
    rw (p.1, p.2)
    (rule-next c.loop-action.invariant _ c.admit.ensures (ahead_there _ _ _ c.is_at.ensures c.loop-action-test.true) _ c.in-Ok.is _ c.in_err-c.ensures)

pub loop-action-smaller : goal.loop-action-smaller
loop-action-smaller c =
    let q = ahead_there _ _ _ c.is_at.ensures c.loop-action-test.true in
    next-less c.args.text.now c.loop-action.c _ c.in_ok-c.c q c.loop-action.invariant.lines.stands c.in_ok-c.ensures

pub loop-action-preserved : goal.loop-action-preserved
loop-action-preserved c =
    rule-more c.loop-action.invariant _ c.admit.ensures (ahead_there _ _ _ c.is_at.ensures c.loop-action-test.true) _ c.in-Ok.is _ c.in_ok-c.ensures
