-- Each line of the lister has room: a word of at most 7 bytes, numbers of at most ten digits, and a line feed.
use Prim.Native.Nat.{ℕ, ◌+◌, ◌-◌, ◌*◌, ◌^◌, ◌≤◌, ◌<◌}
use mathlib.Core.Path.{◌≡◌, sym}
use mathlib.Core.List.{List, [], ◌∷◌, ◌++◌}
use native.Mathlib.Omega.{arith}
use lib.Dec.{lit<}
use lib.ListN.{length, take, length-append}
use lib.Seq.{length-take-le}
use Rattle.text.specs.Number.{decimal}
use Rattle.text.proofs.RoundTrip.{decimal-short}
use Rattle.writer.specs.Inner.Put.{Room, Put, each, field, feed, lone, number_field, number_fields, numbers_line, start_line, end_line}
use Rattle.writer.proofs.Putting.{put-long}
use Rattle.writer.proofs.Texts.{numbers-end}
use Rattle.report.specs.Report.{line_of}
use Rattle.report.specs.Inner.Lines.{word_room, digit_room, line_room, ended}
use Rattle.report.specs.Inner.Runs.{start_room}

field-short : (n : ℕ) → n < 10 ^ digit_room → length (number_field n) ≤ digit_room + 1
unfolding field
field-short n h = omega (arith, decimal-short digit_room n (lit< tt) h)

-- the lines that the writer puts are the lister's
pub line-is : (word ns : List ℕ) → numbers_line word ns ≡ ended (line_of word ns)
line-is word ns = sym (numbers-end word ns)

module _ (word : List ℕ) (a b : ℕ) (w : length word ≤ word_room) (ha : a < 10 ^ digit_room) (hb : b < 10 ^ digit_room) where
  fields-short : length (word ++ number_fields (a ∷ b ∷ [])) ≤ word_room + 2 * (digit_room + 1)
  unfolding each
  fields-short =
      omega (
        arith,
        length-append word (number_field a ++ (number_field b ++ [])),
        length-append (number_field a) (number_field b ++ []),
        length-append (number_field b) [],
        field-short a ha,
        field-short b hb,
      )

  pub two-room : {buffer : List ℕ} → line_room ≤ length buffer → Room (numbers_line word (a ∷ b ∷ [])) 0 buffer
  unfolding numbers_line
  two-room r = record { fits = omega (arith, fields-short, length-append (word ++ number_fields (a ∷ b ∷ [])) feed) }

  pub start-short : length (start_line word (a ∷ b ∷ [])) ≤ start_room
  unfolding start_line
  start-short = omega (arith, fields-short, length-append (word ++ number_fields (a ∷ b ∷ [])) lone)

  pub start-room : {buffer : List ℕ} → start_room ≤ length buffer → Room (start_line word (a ∷ b ∷ [])) 0 buffer
  start-room r = record { fits = omega (arith, start-short) }

-- the end of a line has the room that its start leaves
pub end_short : (c : ℕ) → c < 10 ^ digit_room → length (end_line c) ≤ digit_room + 1
unfolding end_line
end_short c h = omega (arith, length-append (decimal c) feed, decimal-short digit_room c (lit< tt) h)

-- where there is room for a line there is room for a start of m bytes, and behind it for the end
module _ (s : List ℕ) (m : ℕ) (h : m ≤ start_room) (l : m ≤ length s) {at : ℕ} {b : List ℕ} (r : line_room ≤ length b - at) where
  pub head-room : Room (take m s) at b
  head-room = record { fits = omega (arith, length-take-le m s l) }

  pub tail_room : (c : ℕ) → c < 10 ^ digit_room → {n : List ℕ} {q : ℕ} → Put (take m s) at b n q → Room (end_line c) q n
  tail_room c d p = record { fits = omega (arith, length-take-le m s l, end_short c d, p.end, put-long p) }
