-- `labels::grid::View::entry` meets its contract: a row and a column that are there have their place in the grid.
use native.Mathlib.Omega.{arith}
use Rattle.labels.proofs.grid.View.entry.Goals as goal

pub overflow_mul-result : goal.overflow_mul-result
overflow_mul-result c = let s = c.requires in omega (arith, s.0.inside _ _ s.1 s.2)

pub overflow_mul-result-2 : goal.overflow_mul-result-2
overflow_mul-result-2 c = let s = c.requires in omega (arith, s.0.inside _ _ s.1 s.2)

pub overflow_add-result : goal.overflow_add-result
overflow_add-result c = let s = c.requires in omega (arith, s.0.inside _ _ s.1 s.2)

pub offset_bounds-grid-u : goal.offset_bounds-grid-u
offset_bounds-grid-u c = let s = c.requires in omega (arith, s.0.inside _ _ s.1 s.2)

pub bounds-grid-u : goal.bounds-grid-u
bounds-grid-u c = let s = c.requires in s.0.inside _ _ s.1 s.2
