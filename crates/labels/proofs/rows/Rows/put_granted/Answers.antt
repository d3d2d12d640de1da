-- `labels::rows::put_granted` meets its contract: lanes of both sides, whichever comes first.
use Rattle.formula.specs.Truth.{at}
use Rattle.labels.proofs.rows.Rows.put_granted.Goals as goal

pub put_granted-requires : goal.put_granted-requires
put_granted-requires c = let t = c.requires in (t.0, t.3, t.4)

pub put_granted-requires-else-self : goal.put_granted-requires-else-self
put_granted-requires-else-self c = let t = c.requires in (t.0, t.3, t.4)

pub shape_of-granted-then-self : goal.shape_of-granted-then-self
shape_of-granted-then-self c = c.put_granted.ensures.0

pub returns-then-self : goal.returns-then-self
returns-then-self c =
    let x = c.put_granted.ensures in
    rw c.if-self.true (x.0, λ b h p k s t y g l. x.1 b h p k (at s t) (y, record { lane = l.lane; user = l.here; object = l.there }) g)

pub shape_of-granted-else-self : goal.shape_of-granted-else-self
shape_of-granted-else-self c = c.put_granted-else-self.ensures.0

pub returns-else-self : goal.returns-else-self
returns-else-self c =
    let x = c.put_granted-else-self.ensures in
    rw c.if-self.false (x.0, λ b h p k s t y g l. x.1 b h p k (at t s) (y, record { lane = l.lane; user = l.there; object = l.here }) g)
