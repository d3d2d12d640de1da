-- `text::number::digits` meets its contract: what the digits from i on say after v is what all say after 0.
use Rattle.std.specs.Prelude.{Option, Some, None}
use Prim.Native.Nat.{ℕ, ◌^◌, ◌<◌}
use mathlib.Core.Path.{◌≡◌}
use mathlib.Core.Bool.{cond}
use mathlib.Core.List.{List}
use lib.ListN.{drop}
use Rattle.basis.specs.Lists.{all}
use Rattle.text.specs.Number.{is_digit, value_from}
use Rattle.text.proofs.number.digits.Given as goal

-- what digits say after v
abbrev pub said_after : ℕ → List ℕ → Option ℕ
said_after v f = cond (all is_digit f) (Some (value_from v f)) None

abbrev pub invariant-loop-d : goal.invariant-loop-d
invariant-loop-d l = (l.v < 10 ^ l.d-index) × (said_after 0 l.f ≡ said_after l.v (drop l.d-index l.f))
