-- `formula::turn::joined` meets its contract: each turn puts the two rows of one lane together.
use Prim.Native.Nat.{ℕ, ◌+◌, ◌*◌, ◌^◌, ◌≤◌, ◌<◌}
use mathlib.Core.Path.{◌≡◌}
use lib.ListN.{length, get_or}
use Rattle.formula.specs.Inner.Group.{group_size}
use Rattle.formula.specs.Inner.Square.{row_of}
use Rattle.formula.proofs.turn.joined.Given as goal

abbrev pub invariant-loop-j : goal.invariant-loop-j
invariant-loop-j l =
    (l.j ≤ group_size) × (length l.r ≡ group_size) × ((i : ℕ) → i < l.j → get_or l.r i 0 ≡ row_of l.low i + row_of l.high i * 2 ^ group_size)
