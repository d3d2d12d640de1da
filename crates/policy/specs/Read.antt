-- Reading a text: "The first faulty line decides", and in it the first number in the order of testing.
use Rattle.std.specs.Prelude.{ℕ, suc, Bool, true, false, cond, not, List, [], ◌∷◌, ltb, length, Option, None, Some}
use Rattle.basis.specs.Choice.{given, Check, check, first_broken}
use Rattle.text.specs.Parts.{TextLine, fields, lines}
use Rattle.text.specs.Kind.{named, layout_of, is_kind}
use Rattle.text.specs.declared.kind.Kind.{Kind}
use Rattle.text.specs.declared.kind.Kind.TheVariants.{End}
use Rattle.policy.specs.Limits.{text_bytes}
use Rattle.policy.specs.Policy.{Policy, blank}
use Rattle.policy.specs.Line.{allowed, count_fits, form_fits, field_at, line_of}
use Rattle.policy.specs.Checks.{line_in_range, line_rises, line_conflict_room, line_pair_room, line_widths_equal, line_balances, with_line_of}

-- a text is accepted, and yields a policy, or it is refused with a number at a line
pub data Outcome : Type 0 where
  Accepted : Policy → Outcome
  Refused : (number line : ℕ) → Outcome

-- the kind that a line's first field names
abbrev pub kind_of : List ℕ → Option Kind
kind_of l = named (field_at (fields l) 0)

-- the checks of a line of a known kind, after the line before it and the policy of all lines before it, in the order of
-- testing: 22 stands "after 7" and 21 "between 7 and 8"
unfoldable pub checks_of : Option Kind → Policy → Bool → Kind → List (List ℕ) → List Check
checks_of before p ended k fs =
    check 2 (not ended)
    ∷ check 3 (not (allowed before k))
    ∷ check 4 (not (count_fits (layout_of k) (length fs)))
    ∷ check 5 (not (form_fits (layout_of k) fs))
    ∷ check 6 (not (line_in_range p (line_of k fs)))
    ∷ check 7 (not (line_rises p (line_of k fs)))
    ∷ check 22 (not (line_conflict_room p (line_of k fs)))
    ∷ check 21 (not (line_pair_room p (line_of k fs)))
    ∷ check 8 (not (line_widths_equal p (line_of k fs)))
    ∷ check 9 (not (line_balances (line_of k fs)))
    ∷ []

-- those of a line whose first field names this kind, or none
unfoldable pub checks_for : Option Kind → Policy → Bool → Option Kind → List (List ℕ) → List Check
checks_for before p ended None fs = check 2 (not ended) ∷ check 3 true ∷ []
checks_for before p ended (Some k) fs = checks_of before p ended k fs

-- its refusal, or none
unfoldable pub refusal_of : Option Kind → Policy → Bool → Option Kind → List (List ℕ) → Option ℕ
refusal_of before p ended k fs = first_broken (checks_for before p ended k fs)

-- what the lines before a line leave: the kind of the last one, and the policy of them all
pub record State : Type 0 where
  pub before : Option Kind
  pub policy : Policy

abbrev pub start : State
start = record { before = None; policy = blank }

-- after an accepted line
unfoldable pub after : Option Kind → List (List ℕ) → State → State
after None fs s = s
after (Some k) fs s = record { before = Some k; policy = with_line_of (line_of k fs) s.policy }

abbrev pub line_checks : State → TextLine → List Check
line_checks s l = checks_for s.before s.policy l.ended (kind_of l.bytes) (fields l.bytes)

abbrev pub line_refusal : State → TextLine → Option ℕ
line_refusal s l = refusal_of s.before s.policy l.ended (kind_of l.bytes) (fields l.bytes)

abbrev pub line_after : State → TextLine → State
line_after s l = after (kind_of l.bytes) (fields l.bytes) s

-- "The text ends without an end line", at "the count of lines with 10"
unfoldable pub ending : State → ℕ → Outcome
ending s n = cond (given s.before false (is_kind End)) (Accepted s.policy) (Refused 10 n)

-- the lines from line n on
unfoldable pub read_lines : State → ℕ → List TextLine → Outcome
read_lines s n [] = ending s n
read_lines s n (l ∷ ls) = given (line_refusal s l) (read_lines (line_after s l) (suc n) ls) (λ r. Refused r n)

-- "The reader accepts every text that breaks none of 1 to 10", nor 21 or 22
unfoldable pub read_text : List ℕ → Outcome
read_text t = cond (ltb text_bytes (length t)) (Refused 1 0) (read_lines start 0 (lines t))
