-- `report::cursor::Cursor::to_more` meets its contract: where no strip is left, an action is.
use Prim.Native.Nat.{◌≤◌}
use native.Mathlib.Omega.{arith}
use Rattle.report.specs.Inner.Cursor.{numbers_end, next_number}
use Rattle.report.proofs.Left.{end-few, strip-within, action-left}
use Rattle.report.proofs.cursor.Cursor.to_more.Goals as goal

pub overflow_add-self : goal.overflow_add-self
overflow_add-self c = let s = c.requires.0.1 in omega (arith, end-few s, strip-within s)

pub to_strip-requires : goal.to_strip-requires
to_strip-requires c = (c.requires.0, c.requires.3, c.if-self.true)

pub to_action-requires : goal.to_action-requires
to_action-requires c =
    let t = c.args.self.now.tuples in
    let h : numbers_end t ≤ next_number t = omega (arith, c.if-self.false, c.requires.3) in
    (c.requires.0, c.requires.2, h, action-left c.args.self.now c.requires.1 c.requires.2 h)
