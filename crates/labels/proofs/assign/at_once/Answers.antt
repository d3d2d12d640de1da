-- `labels::assign::at_once` meets its contract: the grid has all entries, and its rows and columns are labelled.
use Rattle.labels.proofs.Grids.{view_inside, turned-inside}
use Rattle.labels.proofs.Storing.{users-at-once, objects-at-once}
use Rattle.labels.proofs.assign.at_once.Goals as goal

pub fill-requires : goal.fill-requires
fill-requires c = let s = c.requires in (s.0, s.1, s.2)

pub part-requires : goal.part-requires
part-requires c = let s = c.requires in view_inside s.1.2 s.2

pub part-requires-2 : goal.part-requires-2
part-requires-2 c = let s = c.requires in rw c.turned.ensures (turned-inside _ (view_inside s.1.2 s.2))

pub returns : goal.returns
returns c = λ p rows v.
    let g = c.fill.new.grid in
    let s = c.requires in
    let k = c.fill.ensures p rows v in (
      record {
        users = users-at-once g k v _ s.3.labels c.part.ensures;
        objects = objects-at-once g k v _ s.4.labels (rw c.turned.ensures at c.part-2.ensures);
      },
      k,
    )
