-- `report::runs::run_lines` meets its contract: after each turn the lines of the numbers before k are put, and rest has
-- the marks from k on.
use mathlib.Core.List.{[], ◌∷◌}
use native.Mathlib.Omega.{arith}
use borrow.Author.Rules.{rules}
use Rattle.tuples.proofs.Marked.{turn, left_word}
use Rattle.tuples.proofs.Seeking.{passed-word}
use Rattle.writer.proofs.Putting.{put-long, put_next}
use Rattle.report.proofs.Going.{going_start, going_fits, going_full, going_none, going_line}
use Rattle.report.proofs.Short.{head-room, tail_room}
use Rattle.report.proofs.runs.run_lines.Goals as goal

pub loop-rest-init : goal.loop-rest-init
loop-rest-init c = (going_start (omega arith), left_word (c.args.w ∷ []) 0 (search rules))

pub overflow_sub-buf : goal.overflow_sub-buf
overflow_sub-buf c = going_fits c.loop-rest.invariant.0

pub shape_of-buf-then-buf-at-lt-ROOM : goal.shape_of-buf-then-buf-at-lt-ROOM
shape_of-buf-then-buf-at-lt-ROOM c = put-long c.loop-rest.invariant.0.put

pub returns-then-buf-at-lt-ROOM : goal.returns-then-buf-at-lt-ROOM
returns-then-buf-at-lt-ROOM c = going_full c.loop-rest.invariant.0 (omega (arith, c.if-buf-at-lt-ROOM.true))

pub overflow_cast-next : goal.overflow_cast-next
overflow_cast-next c = omega (arith, (turn _ _ c.loop-rest.rest c.loop-rest.k c.loop-rest.invariant.1 c.loop-rest-test.true).lane)

pub overflow_add-next : goal.overflow_add-next
overflow_add-next c = omega (arith, (turn _ _ c.loop-rest.rest c.loop-rest.k c.loop-rest.invariant.1 c.loop-rest-test.true).within)

pub shape_of-buf-then-count-next : goal.shape_of-buf-then-count-next
shape_of-buf-then-count-next c = put-long c.loop-rest.invariant.0.put

pub returns-then-count-next : goal.returns-then-count-next
returns-then-count-next c = going_none c.loop-rest.invariant.0 (λ k h l. (turn _ _ c.loop-rest.rest c.loop-rest.k c.loop-rest.invariant.1 c.loop-rest-test.true).next.passed k h (omega (arith, c.if-count-next.true)))

pub put-end-requires : goal.put-end-requires
put-end-requires c = let h = c.args.head.now in head-room h.text h.count h.most (omega (arith, h.most, h.long)) (omega (arith, c.if-buf-at-lt-ROOM.false))

pub overflow_cast-next-in-loop-rest : goal.overflow_cast-next-in-loop-rest
overflow_cast-next-in-loop-rest c = omega (arith, c.if-count-next.false, c.requires.0)

pub overflow_add-object : goal.overflow_add-object
overflow_add-object c = omega (arith, c.if-count-next.false, c.requires.1)

pub put-at-requires : goal.put-at-requires
put-at-requires c = let h = c.args.head.now in tail_room h.text h.count h.most (omega (arith, h.most, h.long)) (omega (arith, c.if-buf-at-lt-ROOM.false)) _ (omega (arith, c.if-count-next.false, c.requires.1)) c.put-end.ensures

pub overflow_cast-rest : goal.overflow_cast-rest
overflow_cast-rest c = omega (arith, (turn _ _ c.loop-rest.rest c.loop-rest.k c.loop-rest.invariant.1 c.loop-rest-test.true).lane)

pub overflow_shr-rest : goal.overflow_shr-rest
overflow_shr-rest c = (turn _ _ c.loop-rest.rest c.loop-rest.k c.loop-rest.invariant.1 c.loop-rest-test.true).lane

pub overflow_add-k : goal.overflow_add-k
overflow_add-k c = omega (arith, (turn _ _ c.loop-rest.rest c.loop-rest.k c.loop-rest.invariant.1 c.loop-rest-test.true).within)

pub loop-rest-smaller : goal.loop-rest-smaller
loop-rest-smaller c = omega (arith, (turn _ _ c.loop-rest.rest c.loop-rest.k c.loop-rest.invariant.1 c.loop-rest-test.true).within)

pub loop-rest-preserved : goal.loop-rest-preserved
loop-rest-preserved c = (going_line c.loop-rest.invariant.0 (turn _ _ c.loop-rest.rest c.loop-rest.k c.loop-rest.invariant.1 c.loop-rest-test.true).next c.if-count-next.false (put_next c.put-end.ensures c.put-at.ensures), (turn _ _ c.loop-rest.rest c.loop-rest.k c.loop-rest.invariant.1 c.loop-rest-test.true).left)

pub shape_of-buf : goal.shape_of-buf
shape_of-buf c = put-long c.loop-rest.invariant.0.put

pub returns : goal.returns
returns c = going_none c.loop-rest.invariant.0 (λ k h l. passed-word {words = c.args.w ∷ []} {b = 0} (record { low = omega arith; passed = λ n i j. absurd (omega arith); left = c.loop-rest.invariant.1 }) c.loop-rest-test.false k h (omega (arith, l, c.requires.0)))
