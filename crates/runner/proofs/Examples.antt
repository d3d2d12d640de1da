-- A list of five items: open; close with a third argument; close; a kind that there is not; a call that is cut off.
use Rattle.std.specs.Prelude.{None, Some}
use Prim.Native.Nat.{ℕ}
use mathlib.Core.Path.{◌≡◌, refl}
use mathlib.Core.List.{List, [], ◌∷◌}
use Rattle.policy.specs.Answers.{done, refused}
use Rattle.board.specs.Machine.{opens, closes}
use Rattle.runner.specs.Calls.{call_in, items_in}
use Rattle.runner.specs.Run.{answers_to, bytes_of}

abbrev numbers : List ℕ
numbers = 0 ∷ 7 ∷ 1 ∷ 3 ∷ 3 ∷ 7 ∷ 1 ∷ 9 ∷ 3 ∷ 7 ∷ 1 ∷ 0 ∷ 5 ∷ 7 ∷ 1 ∷ 3 ∷ 4 ∷ 1 ∷ []

items : items_in numbers ≡ Some (opens 7 1 3) ∷ None ∷ Some (closes 7 1) ∷ None ∷ None ∷ []
unfolding items_in call_in
items = refl

answers : bytes_of {S = ℕ} numbers (record { replies = done ∷ refused 14 ∷ []; state = 0 }) ≡ 2 ∷ 5 ∷ 14 ∷ 5 ∷ 5 ∷ []
unfolding items_in call_in answers_to
answers = refl
