-- `formula::turn::turned` meets its contract: three swaps turn a square.
use Rattle.formula.proofs.Squares.{turned_bit}
use Rattle.formula.proofs.turn.turned.Goals as goal

pub returns : goal.returns
returns c i j =
    turned_bit c.args.square c.swapped-ones.result c.swapped-twos.result c.swapped.result
    c.swapped-ones.ensures c.swapped-twos.ensures c.swapped.ensures i j
