-- `labels::grid::view_of` meets its contract: a side has at most the most sets.
use mathlib.Core.Path.{refl}
use lib.Pow.{pow_mono}
use Rattle.labels.proofs.grid.View.of.Goals as goal

pub returns : goal.returns
returns c = λ p x.
    let u = c.sets.ensures p.user x.user in
    let o = c.sets-columns.ensures p.object x.object in
    record { users = u; objects = o; few-users = rw u (pow_mono x.user.most); few-objects = rw o (pow_mono x.object.most); down = refl; along = refl }
