-- `vectors::name` meets its contract: each byte of a name is ASCII.
use native.Mathlib.Omega.{arith}
use Rattle.std.proofs.lemmas.Str.{IsUtf8-from_ascii}
use Rattle.std.proofs.lemmas.Str.Ascii.{IsAscii-nil, IsAscii-cons}
use Rattle.vectors.proofs.name.Goals as goal

pub returns : goal.returns
returns c = IsUtf8-from_ascii _ (search (arith, IsAscii-cons, IsAscii-nil))
