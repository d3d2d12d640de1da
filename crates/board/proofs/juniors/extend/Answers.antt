-- `board::juniors::extend` meets its contract: 1 << b is 2^b, since b is below the number's bits.
use mathlib.Core.Path.{ap, sym, ◌∙◌}
use Prim.Native.Nat.{◌^◌}
use native.Mathlib.Nat.{one-mul}
use native.Mathlib.Omega.{arith}
use lib.Bits.{bit_or}
use lib.Dec.{lit<}
use lib.Pow.{shl_exact}
use Rattle.board.proofs.juniors.extend.Goals as goal

pub returns-then-holds : goal.returns-then-holds
returns-then-holds c =
    let a = c.args in
    rw (sym c.holds.ensures ∙ c.if-holds.true) (ap (bit_or a.s) (shl_exact 1 a.b 32 (lit< tt) (omega arith) ∙ one-mul (2 ^ a.b)))

pub returns-else-holds : goal.returns-else-holds
returns-else-holds c = rw (sym c.holds.ensures ∙ c.if-holds.false)
