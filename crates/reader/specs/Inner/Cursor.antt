-- Where reading stands in a text, and what is left to read from there.
use Rattle.std.specs.Prelude.{ℕ, ◌+◌, ◌≤◌, ◌<◌, ◌≡◌, Bool, true, false, not, List, [], ◌∷◌, length, drop, Option, None, Some, Result, MatchResult}
use Rattle.basis.specs.Choice.{given, check, first_broken}
use Rattle.text.specs.Kind.{layout_of, place_of, is_kind}
use Rattle.text.specs.Parts.{fields, lines}
use Rattle.text.specs.declared.kind.Kind.{Kind}
use Rattle.text.specs.declared.kind.Kind.TheVariants.{Policy as PolicyKind, End}
use Rattle.policy.specs.Answers.{number_of}
use Rattle.policy.specs.Checks.{line_in_range, line_rises, line_conflict_room, line_pair_room, line_widths_equal, line_balances, with_line_of}
use Rattle.policy.specs.Line.{allowed, count_fits, form_fits, numbers_of, line_of}
use Rattle.policy.specs.Policy.{Policy, blank}
use Rattle.policy.specs.Read.{Outcome, Accepted, Refused, read_lines, read_text}
use Rattle.policy.specs.declared.value.Rejection.{Rejection}
use Rattle.line.specs.Inner.Head.{between, numbers_fit}
use Rattle.reader.specs.declared.cursor.Cursor.{Cursor}

-- the fields of the line at a cursor
abbrev pub fields_at : List ℕ → Cursor → List (List ℕ)
fields_at t c = fields (between t c.at c.end)

-- the refusal of a line that breaks none of 2 to 4
unfoldable pub refusal_at : Policy → Kind → List (List ℕ) → Option ℕ
refusal_at p k fs =
    first_broken
    (check 5 (not (form_fits (layout_of k) fs))
    ∷ check 6 (not (line_in_range p (line_of k fs)))
    ∷ check 7 (not (line_rises p (line_of k fs)))
    ∷ check 22 (not (line_conflict_room p (line_of k fs)))
    ∷ check 21 (not (line_pair_room p (line_of k fs)))
    ∷ check 8 (not (line_widths_equal p (line_of k fs)))
    ∷ check 9 (not (line_balances (line_of k fs)))
    ∷ [])

-- what reading makes of the text from a cursor on, where the lines before it say this policy
abbrev pub left_by : List ℕ → Cursor → Option Kind → Policy → Outcome
left_by t c (Some k) p =
    given (refusal_at p k (fields_at t c))
    (read_lines (record { before = Some k; policy = with_line_of (line_of k (fields_at t c)) p }) (c.line + 1) (lines (drop (c.end + 1) t)))
    (λ r. Refused r c.line)
left_by t c None p = Accepted p

unfoldable pub left : List ℕ → Cursor → Policy → Outcome
left t c p = left_by t c c.ahead p

-- a text that is refused
abbrev pub refused_as : Rejection → Outcome
refused_as e = Refused (number_of e.refusal) e.line

-- a cursor at a line of kind k: the line lies in the text, breaks none of 2 to 4, and its numbers are in their form
pub record LineAt (t : List ℕ) (c : Cursor) (k : Kind) : Type 0 where
  pub from : c.at ≤ c.end
  pub inside : c.end < length t
  pub few : c.line ≤ c.at
  pub count : count_fits (layout_of k) (length (fields_at t c)) ≡ true
  pub form : numbers_fit (layout_of k) (fields_at t c) ≡ true
  pub numbers : c.numbers ≡ numbers_of (layout_of k) (fields_at t c)

abbrev pub Stands : List ℕ → Cursor → Type 0
Stands t c = (k : Kind) → c.ahead ≡ Some k → LineAt t c k

-- no line of a kind before place i is ahead
abbrev pub Past : ℕ → Cursor → Type 0
Past i c = (k : Kind) → c.ahead ≡ Some k → i ≤ place_of k

-- what is read from c, before which stands nothing, to d: no line of a kind before place i is ahead there
pub record Reads (t : List ℕ) (c : Cursor) (i : ℕ) (d : Cursor) (p : Policy) : Type 0 where
  pub stands : Stands t d
  pub past : Past i d
  pub left : left t c blank ≡ left t d p

-- the cursor at a place where line n starts
pub record LookedAt (t : List ℕ) (at n : ℕ) (before : Option Kind) (c : Cursor) : Type 0 where
  pub place : c.at ≡ at
  pub left : (p : Policy) → read_lines (record { before = before; policy = p }) n (lines (drop at t)) ≡ left t c p
  pub stands : Stands t c
  pub order : (k : Kind) → c.ahead ≡ Some k → allowed before k ≡ true
  pub over : c.ahead ≡ None → before ≡ Some End

-- or the line breaks something up to its numbers
abbrev pub Looked : List ℕ → (at n : ℕ) → Option Kind → Result Cursor Rejection → Type 0
Looked t at n before r =
    MatchResult r (LookedAt t at n before)
    (λ e. (p : Policy) → read_lines (record { before = before; policy = p }) n (lines (drop at t)) ≡ refused_as e)

-- the cursor at the start of a text, which is its policy line
pub record FirstOf (t : List ℕ) (c : Cursor) : Type 0 where
  pub left : read_text t ≡ left t c blank
  pub stands : Stands t c
  pub kind : c.ahead ≡ Some PolicyKind

abbrev pub First : List ℕ → Result Cursor Rejection → Type 0
First t r = MatchResult r (FirstOf t) (λ e. read_text t ≡ refused_as e)

-- the cursor behind a line of kind k
pub record NextOf (t : List ℕ) (c : Cursor) (k : Kind) (d : Cursor) : Type 0 where
  pub place : d.at ≡ c.end + 1
  pub left : (p : Policy)
      → read_lines (record { before = Some k; policy = p }) (c.line + 1) (lines (drop (c.end + 1) t)) ≡ left t d p
  pub stands : Stands t d
  pub order : (j : Kind) → d.ahead ≡ Some j → allowed (Some k) j ≡ true

abbrev pub Next : List ℕ → Cursor → Kind → Result Cursor Rejection → Type 0
Next t c k r =
    MatchResult r (NextOf t c k)
    (λ e. (p : Policy) → read_lines (record { before = Some k; policy = p }) (c.line + 1) (lines (drop (c.end + 1) t)) ≡ refused_as e)

-- whether a line of kind k is ahead
abbrev pub ahead_is : Option Kind → Kind → Bool
ahead_is (Some j) k = is_kind j k
ahead_is None k = false

-- nothing more is to be read, or the text is refused
abbrev pub Finished : List ℕ → Cursor → Result (Unit {0}) Rejection → Type 0
Finished t c r = MatchResult r (λ u. (p : Policy) → left t c p ≡ Accepted p) (λ e. (p : Policy) → left t c p ≡ refused_as e)
