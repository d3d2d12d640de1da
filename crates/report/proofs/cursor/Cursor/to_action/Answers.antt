-- `report::cursor::Cursor::to_action` meets its contract: the block of the next action is its line and its tuples'.
use native.Mathlib.Omega.{arith}
use Rattle.tuples.specs.Inner.Blocks.{Begun}
use Rattle.report.proofs.Left.{end-few, action_at, Marking, tuples-few, action-same}
use Rattle.report.proofs.Falls.{action-falls}
use Rattle.report.proofs.cursor.Cursor.to_action.Goals as goal

pub bounds-self-self : goal.bounds-self-self
bounds-self-self c = omega (arith, c.requires, c.requires.0.1.stored.most)

pub of_action-grant-requires : goal.of_action-grant-requires
of_action-grant-requires c = let x = c.requires.0 in (x.0, x.1.grants)

pub marks-marks-requires : goal.marks-marks-requires
marks-marks-requires c =
    let x = c.requires.0 in
    (x.0, _, x.1.source, c.of_action-grant.ensures x.0 x.1.grants, omega arith)

pub count-count-requires : goal.count-count-requires
count-count-requires c =
    let x = c.requires.0 in
    let g = c.of_action-grant.ensures x.0 x.1.grants in
    (x.0, _, record { source = x.1.source; grants = g; first = c.marks-marks.ensures x.0 _ x.1.source g })

pub overflow_cast-count : goal.overflow_cast-count
overflow_cast-count c =
    let x = c.requires.0 in
    let g = c.of_action-grant.ensures x.0 x.1.grants in
    let m = c.marks-marks in
    let s : Begun x.0 (action_at c.args.self.now) c.args.self.now.pairs.source c.args.self.now.pairs.objects c.of_action-grant.result m.result.count m.result.words =
    record { source = x.1.source; grants = g; first = m.ensures x.0 _ x.1.source g } in
    omega (arith, c.count-count.ensures x.0 _ s, tuples-few x.0 (action_at c.args.self.now) x.1.source)

pub action_line-to-requires : goal.action_line-to-requires
action_line-to-requires c = omega (arith, c.blank-line.ensures)

pub overflow_add-self : goal.overflow_add-self
overflow_add-self c = omega (arith, c.requires, c.requires.0.1.stored.most)

pub returns : goal.returns
returns c =
    let y = c.action_line-to.ensures in
    let l = c.blank-line.ensures in
    let m = c.marks-marks in (
      λ p x.
          let g = c.of_action-grant.ensures p x.grants in
          let s : Begun p (action_at c.args.self.now) c.args.self.now.pairs.source c.args.self.now.pairs.objects c.of_action-grant.result m.result.count m.result.words =
          record { source = x.source; grants = g; first = m.ensures p _ x.source g } in
          let k : Marking p (action_at c.args.self.now) m.result c.count-count.result =
          record { first = s.first; number = c.count-count.ensures p _ s } in
          action-same x c.requires.3 k c.requires.1 c.requires.2 y l,
      action-falls c.args.self.now _ m.result _ _ c.requires.3 (end-few c.requires.0.1) (omega (arith, y.fits, l)),
    )
