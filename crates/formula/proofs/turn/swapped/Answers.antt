-- `formula::turn::swapped` meets its contract: the law of a swap.
use Rattle.formula.proofs.Squares.{swap_bit}
use Rattle.formula.proofs.turn.swapped.Goals as goal

pub returns : goal.returns
returns c p h = let a = c.args in swap_bit a.x a.by a.mask c.requires.1 p h
