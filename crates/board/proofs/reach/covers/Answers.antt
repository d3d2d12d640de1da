-- `board::reach::covers` meets its contract: one law for each way out.
use mathlib.Core.Path.{sym, ◌∙◌}
use Rattle.board.proofs.Users.{juniors_ask, covers_reached, covers_assigned, covers_none}
use Rattle.board.proofs.reach.covers.Goals as goal

pub returns-in_default : goal.returns-in_default
returns-in_default c = let a = c.args in search covers_none

pub returns-then-within : goal.returns-then-within
returns-then-within c =
    let a = c.args in
    covers_assigned a.side.now c.requires.0 a.assigned c.requires.1 a.set _ c.in-Some.is (sym c.within.ensures ∙ c.if-within.true)

pub with_juniors-reach-requires : goal.with_juniors-reach-requires
with_juniors-reach-requires c = juniors_ask c.args.side.now c.requires.0

pub returns : goal.returns
returns c =
    let a = c.args in
    covers_reached a.side.now c.requires.0 a.assigned c.requires.1 a.set _ c.in-Some.is
    c.with_juniors-reach.result c.with_juniors-reach.ensures c.within-2.result c.within-2.ensures
