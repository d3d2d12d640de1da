-- What the lister writes for a text: document 01, "One text through the lister", and document 02, slip 1.
use Rattle.std.specs.Prelude.{ℕ, zero, suc, ◌/◌, ◌%◌, ◌^◌, List, [], ◌∷◌, ◌++◌, map, length, take, drop}
use Rattle.basis.specs.Bytes.{bytes}
use Rattle.basis.specs.Numbers.{select}
use Rattle.text.specs.Number.{decimal}
use Rattle.text.specs.Parts.{comma, join, text_of}
use Rattle.policy.specs.Limits.{actions}
use Rattle.policy.specs.Policy.{Policy, total, named}
use Rattle.policy.specs.Read.{Outcome, Accepted, Refused}
use Rattle.tuples.specs.Tuples.{tuples}
use Rattle.labels.specs.Compile.{NU, NO}

-- a word and numbers, parted by commas
abbrev pub line_of : List ℕ → List ℕ → List ℕ
line_of word ns = join comma (word ∷ map decimal ns)

-- "For a refused text it writes only `refused,N,L`: refusal and line."
abbrev pub refusal_line : ℕ → ℕ → List ℕ
refusal_line number line = line_of (bytes "refused") (number ∷ line ∷ [])

-- "It writes NU and NO"
abbrev pub labels_line : ℕ → ℕ → List ℕ
labels_line users objects = line_of (bytes "labels") (users ∷ objects ∷ [])

-- "its action and count of tuples"
abbrev pub action_line : ℕ → ℕ → List ℕ
action_line action count = line_of (bytes "action") (action ∷ count ∷ [])

-- "and each tuple as action, user set, object set": a tuple is stored as user set × 2^O + object set, where the object
-- side has O values
abbrev pub tuple_line : ℕ → ℕ → ℕ → List ℕ
tuple_line action values n = line_of (bytes "tuple") (action ∷ n / 2 ^ values ∷ n % 2 ^ values ∷ [])

-- the lines of an action, and those of some actions
abbrev pub block : Policy → ℕ → List (List ℕ)
block p a =
    let ts = tuples p a in
    action_line a (length ts) ∷ map (tuple_line a (total p.object)) ts

unfoldable pub blocks : Policy → List ℕ → List (List ℕ)
blocks p [] = []
blocks p (a ∷ rest) = block p a ++ blocks p rest

-- "a block to every action with a rule or a pair, in rising order"
abbrev pub listed : Policy → List ℕ
listed p = select (named p) (actions p.form)

-- these lines, each ended by a line feed
unfoldable pub report : Outcome → List ℕ
report (Accepted p) = text_of (labels_line (NU p) (NO p) ∷ blocks p (listed p))
report (Refused n l) = text_of (refusal_line n l ∷ [])

-- ---- in chunks

-- of what is left of a report, the next chunk in a buffer of so many bytes, and what is left behind it
abbrev pub chunk : ℕ → List ℕ → List ℕ
chunk size left = take size left

abbrev pub behind : ℕ → List ℕ → List ℕ
behind size left = drop size left

-- the first n chunks in order, and what is left behind them
unfoldable pub sent : ℕ → ℕ → List ℕ → List ℕ
sent size zero left = []
sent size (suc n) left = chunk size left ++ sent size n (behind size left)

unfoldable pub unsent : ℕ → ℕ → List ℕ → List ℕ
unsent size zero left = left
unsent size (suc n) left = unsent size n (behind size left)
