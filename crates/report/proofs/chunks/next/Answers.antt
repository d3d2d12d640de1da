-- `report::chunks::next` meets its contract: what was handed out and what is left at c make the whole, and each step lessens
-- what remains.
use native.Mathlib.Omega.{arith}
use mathlib.Core.Path.{sym, ◌∙◌}
use Rattle.writer.proofs.Putting.{put-long}
use Rattle.report.proofs.Rest.{rest-long}
use Rattle.report.proofs.Handing.{handed-start, handed-sum, handed-next, answer-full, answer-over}
use Rattle.report.proofs.chunks.next.Goals as goal

pub loop-count-init : goal.loop-count-init
loop-count-init c =
    let x = c.requires.1 in
    ((λ p y. handed-start c.args.buffer.now y), (x.0, x.1), omega arith, λ h. omega arith)

pub is_over-requires : goal.is_over-requires
is_over-requires c = let i = c.loop-count.invariant in (i.1.0, (i.0 i.1.0 i.1.1).stands)

pub shape_of-buffer-then-is_over : goal.shape_of-buffer-then-is_over
shape_of-buffer-then-is_over c = let i = c.loop-count.invariant in put-long (i.0 i.1.0 i.1.1).put

pub returns-then-is_over : goal.returns-then-is_over
returns-then-is_over c =
    let i = c.loop-count.invariant in
    let a = answer-over i.0 (sym c.is_over.ensures ∙ c.if-is_over.true) in
    record { counted = λ left l. (a left l).count; stored = λ left l. (a left l).buffer; left_behind = λ left l. (a left l).next; falls = i.3 }

pub step-count-requires : goal.step-count-requires
step-count-requires c =
    let l = c.loop-count in let i = l.invariant in
    ((i.1.0, (i.0 i.1.0 i.1.1).stands), sym c.is_over.ensures ∙ c.if-is_over.false, omega (arith, rest-long l.buffer l.count, c.loop-count-test.true))

pub overflow_add-count : goal.overflow_add-count
overflow_add-count c =
    let l = c.loop-count in let i = l.invariant in let y = i.0 i.1.0 i.1.1 in
    omega (arith, handed-sum y (c.step-count.ensures.0 i.1.0 y.stands), put-long y.put, c.well_formed)

pub loop-count-smaller : goal.loop-count-smaller
loop-count-smaller c = c.step-count.ensures.1

pub loop-count-preserved : goal.loop-count-preserved
loop-count-preserved c =
    let l = c.loop-count in let i = l.invariant in let s = c.step-count in (
      (λ p x. let y = i.0 p x in handed-next y (s.ensures.0 p y.stands)),
      i.1,
      omega (arith, s.ensures.1, i.2),
      λ h. omega (arith, s.ensures.1, i.2),
    )

pub shape_of-buffer : goal.shape_of-buffer
shape_of-buffer c = let i = c.loop-count.invariant in put-long (i.0 i.1.0 i.1.1).put

pub returns : goal.returns
returns c =
    let i = c.loop-count.invariant in
    let a = answer-full i.0 c.loop-count-test.false in
    record { counted = λ left l. (a left l).count; stored = λ left l. (a left l).buffer; left_behind = λ left l. (a left l).next; falls = i.3 }
