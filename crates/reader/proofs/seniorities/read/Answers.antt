-- `reader::seniorities::read` meets its contract: what is read stands in a list that was blank.
use native.Mathlib.Omega.{arith}
use Rattle.policy.proofs.Bounds.{directs-few}
use Rattle.checks.specs.Inner.{sizes_in}
use Rattle.reader.proofs.RisingLines.{short-roomy}
use Rattle.std.proofs.lemmas.Result.{err_from_is_err_and}
use Rattle.reader.proofs.Whole.{line-places, directs-from}
use Rattle.reader.proofs.seniorities.read.Goals as goal

pub returns-in_err-count : goal.returns-in_err-count
returns-in_err-count c =
    let p = err_from_is_err_and c.from_residual.result c.from_residual.ensures.1 in
    let places = line-places c.args.side.now c.requires.2 in
    rw (p.1, p.2) (c.in_err-count.ensures (short-roomy _ _ _ _ (λ xs h. omega (arith, directs-few (sizes_in c.args.shape.now) c.requires.1 xs h, places))))

pub returns : goal.returns
returns c =
    let places = line-places c.args.side.now c.requires.2 in
    directs-from _ c.requires.2 (c.in_ok-count.ensures (short-roomy _ _ _ _ (λ xs h. omega (arith, directs-few (sizes_in c.args.shape.now) c.requires.1 xs h, places))))
