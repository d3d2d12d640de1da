-- `line::head::plain` meets its contract: the fields read so far are the first of the line.
use mathlib.Core.Path.{ap, ◌∙◌}
use native.Mathlib.Omega.{arith}
use Rattle.line.proofs.Fields.{values-length, no_number, number_more, number_missing, number_left, numbers_read}
use Rattle.std.specs.Option.{ok_or}
use Rattle.policy.specs.declared.refusal.Refusal.TheVariants.{MalformedField}
use Rattle.line.proofs.head.plain.Goals as goal

pub loop-value-init : goal.loop-value-init
loop-value-init c = no_number _ _ _ c.requires.0

pub returns-then-at-line : goal.returns-then-at-line
returns-then-at-line c =
    number_missing c.loop-value.invariant c.args.n c.requires.1 (omega (arith, c.loop-value-test.true, values-length _ c.requires.1)) c.if-at-line.true

pub loop-value-preserved : goal.loop-value-preserved
loop-value-preserved c =
    number_more c.loop-value.invariant c.if-at-line.false _ c.find-end.ensures _ c.parse.ensures
    (omega (arith, c.loop-value-test.true, c.loop-value.auto.value-items))

pub returns-then-at-line-2 : goal.returns-then-at-line-2
returns-then-at-line-2 c =
    number_left c.loop-value.invariant c.args.n c.requires.1
    (omega (arith, c.loop-value-test.false, c.loop-value.auto.value-index-end, values-length _ c.requires.1)) c.if-at-line-2.true

pub returns : goal.returns
returns c =
    c.ok_or.ensures.value ∙ ap (λ o. ok_or o MalformedField) c.said.ensures
    ∙ numbers_read c.loop-value.invariant c.args.n c.requires.1
    (omega (arith, c.loop-value-test.false, c.loop-value.auto.value-index-end, values-length _ c.requires.1)) c.if-at-line-2.false
    (omega (arith, c.loop-value.auto.value-items, values-length _ c.requires.1))
