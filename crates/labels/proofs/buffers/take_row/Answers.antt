-- `labels::buffers::take_row` meets its contract.
use native.Mathlib.Omega.{arith}
use Rattle.basis.proofs.Bools.{never}
use Rattle.labels.proofs.buffers.take_row.Goals as goal

pub put_row-requires : goal.put_row-requires
put_row-requires c =
    let s = c.requires in ((s.1.0, s.1.1, rw s.0 (omega (arith, s.1.2))), s.2)

pub returns-then-not-kept : goal.returns-then-not-kept
returns-then-not-kept c =
    let s = c.requires in
    λ p rows q kept o h. rw s.0 at (c.put_row.ensures p o rows (rw s.0 (omega (arith, q))) h)

pub returns-else-not-kept : goal.returns-else-not-kept
returns-else-not-kept c = λ p rows q kept. absurd (never c.args.kept c.if-not-kept.false kept)
