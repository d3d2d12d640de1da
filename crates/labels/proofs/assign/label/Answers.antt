-- `labels::assign::label` meets its contract, at once or by strips.
use Prim.Native.Nat.{◌*◌}
use mathlib.Core.Path.{sym, ◌∙◌}
use native.Mathlib.Omega.{arith}
use borrow.Author.Tests.{leb-true, leb-false}
use Rattle.labels.specs.Inner.Grid.{grid_places}
use Rattle.labels.proofs.assign.label.Goals as goal

pub has_room-requires : goal.has_room-requires
has_room-requires c = let v = c.requires.1.2 in (v.few-users, v.few-objects)

pub at_once-requires : goal.at_once-requires
at_once-requires c =
    let s = c.requires in (s.0, s.1, leb-true _ _ (sym c.has_room.ensures ∙ c.if-has_room.true), s.2, s.3)

pub returns-then-has_room : goal.returns-then-has_room
returns-then-has_room c = λ p rows v. let r = c.at_once.ensures p rows v in (r.0, λ h. r.1)

pub returns-else-has_room : goal.returns-else-has_room
returns-else-has_room c = λ p rows v.
    let w = c.args.view in (
      c.by_strips.ensures p rows v,
      λ h. absurd (omega (arith, h, leb-false (w.rows * w.columns) grid_places (sym c.has_room.ensures ∙ c.if-has_room.false))),
    )
