-- `reader::pairs::read` meets its contract: what is read stands in a list that was blank.
use Rattle.reader.proofs.RisingLines.{limited-roomy}
use Rattle.std.proofs.lemmas.Result.{err_from_is_err_and}
use Rattle.reader.proofs.Whole.{pair-places, pairs-from}
use Rattle.reader.proofs.pairs.read.Goals as goal

pub returns-in_err-count : goal.returns-in_err-count
returns-in_err-count c =
    let p = err_from_is_err_and c.from_residual.result c.from_residual.ensures.1 in
    let places = pair-places c.args.list.now c.requires.1 in
    rw (p.1, p.2) (c.in_err-count.ensures (limited-roomy _ _ _ _ _ places))

pub returns : goal.returns
returns c =
    let places = pair-places c.args.list.now c.requires.1 in
    pairs-from _ c.requires.1 (c.in_ok-count.ensures (limited-roomy _ _ _ _ _ places))
