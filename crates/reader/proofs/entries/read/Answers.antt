-- `reader::entries::read` meets its contract: what is read stands in a list that was blank.
use native.Mathlib.Omega.{arith}
use Rattle.reader.proofs.RisingLines.{short-roomy, entries-short}
use Rattle.std.proofs.lemmas.Result.{err_from_is_err_and}
use Rattle.reader.proofs.Whole.{register-places, entries-from}
use Rattle.reader.proofs.entries.read.Goals as goal

pub returns-in_err-count : goal.returns-in_err-count
returns-in_err-count c =
    let p = err_from_is_err_and c.from_residual.result c.from_residual.ensures.1 in
    let places = register-places c.args.list.now c.requires.3 in
    rw (p.1, p.2) (c.in_err-count.ensures (short-roomy _ _ _ _ (λ xs h. omega (arith, entries-short c.args.most c.args.side.now.total xs h, c.requires.1, places))))

pub returns : goal.returns
returns c =
    let places = register-places c.args.list.now c.requires.3 in
    entries-from _ c.requires.3 (c.in_ok-count.ensures (short-roomy _ _ _ _ (λ xs h. omega (arith, entries-short c.args.most c.args.side.now.total xs h, c.requires.1, places))))
