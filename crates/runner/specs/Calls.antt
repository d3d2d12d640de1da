-- A list of calls as numbers, four to a call: its kind, then its arguments in the order of document 01.
use Rattle.std.specs.Prelude.{ℕ, cond, List, [], ◌∷◌, eqb, Option, None, Some}
use Rattle.board.specs.Machine.{Call, opens, adds, drops, closes, requests}
use Rattle.board.specs.Board.{call_of}
use Rattle.board.specs.declared.Call.{Call as CodeCall}

-- what the code's item stands for
abbrev pub item_of : Option CodeCall → Option Call
item_of None = None
item_of (Some c) = Some (call_of c)

-- the call that four numbers are, if they are one: kind 0 is open, 1 add, 2 drop, 3 close, 4 request; close has 0 for a
-- third argument
unfoldable pub call_in : ℕ → ℕ → ℕ → ℕ → Option Call
call_in kind a b c =
    cond (eqb kind 0) (Some (opens a b c))
    (cond (eqb kind 1) (Some (adds a b c))
    (cond (eqb kind 2) (Some (drops a b c))
    (cond (eqb kind 3) (cond (eqb c 0) (Some (closes a b)) None)
    (cond (eqb kind 4) (Some (requests a b c)) None))))

-- the items of a list of numbers: each is a call, or what is none; a last one of fewer than four numbers is none
unfoldable pub items_in : List ℕ → List (Option Call)
items_in [] = []
items_in (kind ∷ []) = None ∷ []
items_in (kind ∷ a ∷ []) = None ∷ []
items_in (kind ∷ a ∷ b ∷ []) = None ∷ []
items_in (kind ∷ a ∷ b ∷ c ∷ rest) = call_in kind a b c ∷ items_in rest

-- those that are calls, in order
unfoldable pub calls_in : List (Option Call) → List Call
calls_in [] = []
calls_in (None ∷ items) = calls_in items
calls_in (Some c ∷ items) = c ∷ calls_in items
