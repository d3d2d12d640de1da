-- `board::assigned::place` meets its contract: the lesser number is the definition's.
use Rattle.std.proofs.Common.{arith}
use Rattle.std.proofs.lemmas.Bool.Decides.{nat_tests}
use Rattle.board.specs.Inner.{place_of}
use Rattle.board.proofs.assigned.place.Goals as goal

pub returns : goal.returns
unfolding place_of
returns c = let e = c.min.ensures in grind (arith, nat_tests)
