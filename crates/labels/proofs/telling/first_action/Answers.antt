-- `labels::telling::first_action` meets its contract: the lowest bit that two entries do not share.
use Rattle.std.proofs.lemmas.Nat.{xor_of_16}
use native.Mathlib.Omega.{arith}
use Rattle.labels.proofs.Entries.{first-xor}
use Rattle.labels.proofs.telling.first_action.Goals as goal

pub returns : goal.returns
returns c = first-xor _ _ (xor_of_16 c.args.x c.args.y (omega arith) (omega arith))
