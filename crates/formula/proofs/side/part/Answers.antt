-- `formula::side::part` meets its contract.
use Prim.Native.Nat.{◌+◌, ◌*◌}
use borrow.Author.Rules.{rules}
use Rattle.formula.specs.Inner.Lane.{lanes}
use Rattle.formula.proofs.Vectors.{set-small}
use Rattle.formula.proofs.side.part.Goals as goal

pub returns : goal.returns
returns c k h = let b = set-small (c.args.b * lanes + k) c.args.from c.args.n c.requires.1 in search rules
