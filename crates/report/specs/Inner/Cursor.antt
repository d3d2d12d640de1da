-- What is left of a report at a cursor.
use Rattle.std.specs.Prelude.{ℕ, ◌+◌, ◌-◌, ◌*◌, ◌≤◌, ◌≡◌, Bool, false, cond, List, ◌++◌, leb, ltb, length, take, drop}
use Rattle.text.specs.Parts.{text_of}
use Rattle.policy.specs.Limits.{most_actions, most_tuples}
use Rattle.policy.specs.Policy.{Policy, total}
use Rattle.formula.specs.Inner.Grant.{GrantsOf}
use Rattle.formula.specs.Inner.Lane.{lanes}
use Rattle.formula.specs.Inner.Source.{SourceOf}
use Rattle.tuples.specs.Inner.Blocks.{most_blocks, pair_blocks, tuple_at, StripOf}
use Rattle.tuples.specs.Inner.Marks.{passing}
use Rattle.writer.specs.Inner.Put.{Put, each}
use Rattle.report.specs.Report.{blocks, listed}
use Rattle.report.specs.Inner.Lines.{line_room, tuple_text}
use Rattle.report.specs.declared.cursor.Chunk.{Chunk}
use Rattle.report.specs.declared.cursor.Cursor.{Cursor}
use Rattle.report.specs.declared.cursor.Held.{Held}
use Rattle.report.specs.declared.cursor.Tuples.{Tuples}
use Rattle.report.specs.declared.listed.Listed.{Listed}

-- the bytes held back
abbrev pub held_bytes : Held → List ℕ
held_bytes h = take (h.to - h.from) (drop h.from h.bytes)

-- the end of the marks of a strip
abbrev pub marks_end : Tuples → ℕ
marks_end t = t.marks.count * lanes

-- the end of all numbers, and the first of those whose lines are left
abbrev pub numbers_end : Tuples → ℕ
numbers_end t = t.end * lanes

abbrev pub next_number : Tuples → ℕ
next_number t = t.first * lanes + t.from

-- the lines of the tuples from that one on
abbrev pub tuples_left : Policy → Tuples → List ℕ
tuples_left p t = each (tuple_text t.action t.values) (passing (tuple_at p t.action) (next_number t) (numbers_end t))

-- the blocks of the listed actions from the next one on
abbrev pub blocks_left : Policy → ℕ → List ℕ
blocks_left p i = text_of (blocks p (drop i (listed p)))

-- what is left
unfoldable pub left_of : Policy → Cursor → List ℕ
left_of p c = held_bytes c.held ++ (tuples_left p c.tuples ++ blocks_left p c.done)

-- these actions stand in the first places
pub record Stores (xs : List ℕ) (l : Listed) : Type 0 where
  pub number : l.count ≡ length xs
  pub most : l.count ≤ most_actions
  pub actions : take l.count l.actions ≡ xs

pub record HeldFits (h : Held) : Type 0 where
  pub low : h.from ≤ h.to
  pub high : h.to ≤ length h.bytes
  pub long : length h.bytes ≡ line_room

pub record TuplesFit (p : Policy) (t : Tuples) : Type 0 where
  pub values : t.values ≡ total p.object
  pub end : t.end ≡ pair_blocks p
  pub strip : StripOf p t.action t.first t.marks.count t.marks.words
  pub within : t.from ≤ marks_end t

-- the cursor is one of this policy
pub record Standing (p : Policy) (c : Cursor) : Type 0 where
  pub source : SourceOf p c.pairs.source c.pairs.objects
  pub grants : GrantsOf p c.grants
  pub stored : Stores (listed p) c.listed
  pub within : c.done ≤ c.listed.count
  pub tuples : TuplesFit p c.tuples
  pub held : HeldFits c.held

-- the cursor stands where these bytes of a report are left
abbrev pub Left : Cursor → List ℕ → Type 0
Left c left = (p : Policy) × Standing p c × (left ≡ left_of p c)

-- nothing is left to work out or to hand out
unfoldable pub is_over : Cursor → Bool
is_over c = cond (ltb c.held.from c.held.to) false (cond (ltb (next_number c.tuples) (numbers_end c.tuples)) false (leb c.listed.count c.done))

-- a number that falls as a report is handed out: a byte held back counts one, a block whose marks are not made one too,
-- a pair that may be a tuple more than its line, an action more than all pairs and blocks
unfoldable pub remaining : Cursor → ℕ
remaining c =
    (c.held.to - c.held.from)
    + (c.tuples.end - (c.tuples.first + c.tuples.marks.count))
    + (line_room + 1) * ((numbers_end c.tuples - next_number c.tuples) + (1 + most_blocks + most_tuples) * (c.listed.count - c.done))

-- so many bytes handed out, and the cursor behind them
abbrev pub up_to : ℕ → Cursor → Chunk
up_to count next = record { count = count; next = next }

-- the first of the bytes that are left at c are put at the start of a buffer, and the answer's cursor is behind them
pub record Handed (p : Policy) (c : Cursor) (entry exit : List ℕ) (r : Chunk) : Type 0 where
  pub bytes : List ℕ
  pub put : Put bytes 0 entry exit r.count
  pub stands : Standing p r.next
  pub left : left_of p c ≡ bytes ++ left_of p r.next

-- the other cursor has the same left
pub record Same (p : Policy) (c d : Cursor) : Type 0 where
  pub stands : Standing p d
  pub left : left_of p c ≡ left_of p d
