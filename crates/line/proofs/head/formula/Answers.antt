-- `line::head::formula` meets its contract: of three fields or more the first ends at a comma.
use Rattle.std.proofs.lemmas.Result.{err_from_is_err_and}
use Rattle.line.proofs.Fields.{missing-refused, formula-few, formula-many, comma-there, formula-malformed, formula-action}
use Rattle.line.proofs.head.formula.Goals as goal
use Rattle.line.proofs.head.formula.Goals.{then-n-lt3-via-then-n-lt3, then-n-lt3-via-else-n-lt3+then-n-gt-MOST_FIELDS}

pub find-end-requires : goal.find-end-requires
find-end-requires c = search comma-there

pub returns-then-n-lt3 : goal.returns-then-n-lt3
returns-then-n-lt3 c =
    elim c.then-n-lt3.branch [
      | then-n-lt3-via-then-n-lt3 w ↦ search formula-few
      | then-n-lt3-via-else-n-lt3+then-n-gt-MOST_FIELDS w ↦ search formula-many
    ]

pub returns-in_err-first : goal.returns-in_err-first
returns-in_err-first c = let p = err_from_is_err_and c.from_residual.result c.from_residual.ensures.1 in
    let q = formula-malformed _ _ c.requires _ c.count-n.ensures c.if-n-lt3.false c.if-n-gt-MOST_FIELDS.false _ c.find-end.ensures _ c.parse.ensures c.in_err-first.ensures.ok_part in
    rw (p.1, p.2, missing-refused _ _ _ c.in_err-first.ensures.value c.in_err-first.ensures.ok_part) q

pub returns : goal.returns
returns c = formula-action _ _ c.requires _ c.count-n.ensures c.if-n-lt3.false c.if-n-gt-MOST_FIELDS.false _ c.find-end.ensures _ c.parse.ensures _ c.in_ok-first.ensures.ok_part
