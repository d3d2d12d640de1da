-- `line::rule::words` meets its contract: the words done, and those of the fields left, are the words of all fields.
use native.Mathlib.Omega.{arith}
use Rattle.std.proofs.lemmas.Result.{err_from_is_err_and}
use Rattle.basis.specs.Lists.{padded}
use Rattle.line.proofs.Fields.{missing-refused}
use Rattle.line.proofs.Rules.{none_done, word_digits, room, stops, goes_on, ends}
use borrow.Author.Rules.{rules}
use Rattle.line.proofs.rule.words.Goals as goal

pub loop-word-init : goal.loop-word-init
unfolding padded
loop-word-init c = none_done _ _ c.requires.0

pub returns-in_err-word : goal.returns-in_err-word
returns-in_err-word c =
    let p = err_from_is_err_and c.from_residual.result c.from_residual.ensures.1 in
    let e = c.in_err-word.ensures in
    rw (p.1, p.2, missing-refused _ _ _ e.value e.ok_part) (stops c.loop-word.invariant _ c.find-end.ensures _ c.parse.ensures e.ok_part c.args.action)

pub number-requires : goal.number-requires
number-requires c = word_digits _ _ c.parse.ensures _ c.in_ok-word.ensures.ok_part

pub bounds-words-count : goal.bounds-words-count
bounds-words-count c =
    let s = c.loop-word.invariant in
    let k = room s c.requires.1 in
    search rules

pub overflow_add-count : goal.overflow_add-count
overflow_add-count c =
    let s = c.loop-word.invariant in
    let k = room s c.requires.1 in
    omega arith

pub returns-then-end-line : goal.returns-then-end-line
returns-then-end-line c =
    let s = c.loop-word.invariant in
    ends s _ c.find-end.ensures _ c.parse.ensures _ c.in_ok-word.ensures.ok_part _ c.number.ensures (room s c.requires.1) c.if-end-line.true c.args.action

pub loop-word-preserved : goal.loop-word-preserved
loop-word-preserved c =
    let s = c.loop-word.invariant in
    goes_on s _ c.find-end.ensures _ c.parse.ensures _ c.in_ok-word.ensures.ok_part _ c.number.ensures (room s c.requires.1) c.if-end-line.false
