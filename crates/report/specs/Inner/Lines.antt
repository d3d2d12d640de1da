-- The lines of a report: the room for one, and lines of tuples that are put as long as there is room.
use Rattle.std.specs.Prelude.{ℕ, ◌+◌, ◌*◌, ◌≤◌, ◌<◌, ◌≡◌, Bool, List, ◌++◌, length}
use Rattle.policy.specs.Read.{Outcome, Accepted, Refused}
use Rattle.labels.specs.Compile.{NU, NO}
use Rattle.tuples.specs.Inner.Marks.{passing}
use Rattle.writer.specs.Inner.Put.{Put, each, feed}
use Rattle.report.specs.Report.{labels_line, refusal_line, tuple_line}
use Rattle.report.specs.declared.lines.Lines.{Lines}

-- room for a word, three numbers of the machine with their commas, and a line feed
abbrev pub word_room : ℕ
word_room = 7

abbrev pub digit_room : ℕ
digit_room = 10

abbrev pub line_room : ℕ
line_room = word_room + 3 * (digit_room + 1) + 1

-- a line with its line feed
abbrev pub ended : List ℕ → List ℕ
ended l = l ++ feed

abbrev pub tuple_text : ℕ → ℕ → ℕ → List ℕ
tuple_text action values n = ended (tuple_line action values n)

-- the first line of what is written for a text
unfoldable pub first_line : Outcome → List ℕ
first_line (Accepted p) = labels_line (NU p) (NO p)
first_line (Refused n l) = refusal_line n l

-- of the lines of the numbers from `from` on and below n that pass, those before the next one are put at the start of a
-- buffer, if it has room for a line, and the others are left
pub record Some (line : ℕ → List ℕ) (f : ℕ → Bool) (n from : ℕ) (entry exit : List ℕ) (r : Lines) : Type 0 where
  pub text : List ℕ
  pub put : Put text 0 entry exit r.at
  pub left : each line (passing f from n) ≡ text ++ each line (passing f r.next n)
  pub low : from ≤ r.next
  pub high : r.next ≤ n
  pub moves : from < n → line_room ≤ length entry → from < r.next
