-- `report::cursor::Cursor::to_strip` meets its contract: what was left behind a strip starts with the next one.
use native.Mathlib.Omega.{arith}
use Rattle.report.proofs.Left.{end-few, strip-same}
use Rattle.report.proofs.Falls.{strip-falls}
use Rattle.report.proofs.cursor.Cursor.to_strip.Goals as goal

pub overflow_add-first : goal.overflow_add-first
overflow_add-first c = omega (arith, c.requires.2, end-few c.requires.0.1)

pub of_action-grant-requires : goal.of_action-grant-requires
of_action-grant-requires c = let x = c.requires.0 in (x.0, x.1.grants)

pub marks-marks-requires : goal.marks-marks-requires
marks-marks-requires c =
    let x = c.requires.0 in
    (x.0, _, x.1.source, c.of_action-grant.ensures x.0 x.1.grants, omega (arith, c.requires.2, x.1.tuples.end))

pub returns : goal.returns
returns c =
    let x = c.requires.0 in let g = c.of_action-grant.ensures in let m = c.marks-marks in (
      λ p y. strip-same y m.result c.requires.1 (m.ensures p _ y.source (g p y.grants)),
      strip-falls c.args.self.now m.result (omega (arith, c.requires.1, x.1.tuples.within)) c.requires.2
          ((m.ensures x.0 _ x.1.source (g x.0 x.1.grants)).some (omega (arith, c.requires.2, x.1.tuples.end))),
    )
