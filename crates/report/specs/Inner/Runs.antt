-- Runs of tuples' lines: their start, and the table of their ends.
use Rattle.std.specs.Prelude.{ℕ, ◌+◌, ◌*◌, ◌≤◌, ◌<◌, ◌≡◌, List, take, drop}
use Rattle.writer.specs.Inner.Put.{end_line}
use Rattle.report.specs.Inner.Lines.{word_room, digit_room}

-- room for the start of a line
abbrev pub start_room : ℕ
start_room = word_room + 2 * (digit_room + 1) + 1

-- the ends of the numbers of three digits below n stand in a table, four bytes each
abbrev pub most_tabled : ℕ
most_tabled = 512

abbrev pub EndsTo : ℕ → List ℕ → Type 0
EndsTo n ends = (o : ℕ) → 100 ≤ o → o < n → take 4 (drop (o * 4) ends) ≡ end_line o
