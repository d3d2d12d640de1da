-- Why a text is accepted or refused: "The first faulty line decides", and "The reader accepts every text that breaks
-- none of 1 to 10", to which document 02 adds 21 and 22.
use Rattle.std.specs.Prelude.{ℕ, ◌≤◌, ◌<◌, ◌≡◌, Bool, true, false, not, ◌&&◌, List, [], ◌∷◌, ◌++◌, ◌⊎◌, length}
use Rattle.basis.specs.Choice.{given, there}
use Rattle.text.specs.Kind.{is_kind}
use Rattle.text.specs.Parts.{TextLine, lines}
use Rattle.text.specs.declared.kind.Kind.TheVariants.{End}
use Rattle.policy.specs.Limits.{text_bytes}
use Rattle.policy.specs.Policy.{Policy}
use Rattle.policy.specs.Read.{Outcome, Accepted, Refused, State, start, line_checks, line_refusal, line_after}
use Rattle.claims.specs.Answers.{Met}

-- what some lines leave, and whether none of them is refused
unfoldable pub after_lines : State → List TextLine → State
after_lines s [] = s
after_lines s (l ∷ ls) = after_lines (line_after s l) ls

unfoldable pub passes : State → List TextLine → Bool
passes s [] = true
passes s (l ∷ ls) = not (there (line_refusal s l)) && passes (line_after s l) ls

-- the last line is an end line
abbrev pub ends : State → Bool
ends s = given s.before false (is_kind End)

-- 1: "The text is longer than 8,192 bytes", with line 0
pub record TooLong (t : List ℕ) (n line : ℕ) : Type 0 where
  pub number : n ≡ 1
  pub first : line ≡ 0
  pub long : text_bytes < length t

-- 2 to 9, 21 and 22: the first faulty line, and the first number in the order of testing whose condition it meets
pub record Faulty (t : List ℕ) (n line : ℕ) : Type 0 where
  pub short : length t ≤ text_bytes
  pub before : List TextLine
  pub at : TextLine
  pub behind : List TextLine
  pub parted : lines t ≡ before ++ (at ∷ behind)
  pub place : length before ≡ line
  pub sound : passes start before ≡ true
  pub met : Met (line_checks (after_lines start before) at) n
  pub number : ((2 ≤ n) × (n ≤ 9)) ⊎ ((21 ≤ n) × (n ≤ 22))

-- 10: "The text ends without an end line", with "the count of lines"
pub record Endless (t : List ℕ) (n line : ℕ) : Type 0 where
  pub short : length t ≤ text_bytes
  pub number : n ≡ 10
  pub count : line ≡ length (lines t)
  pub sound : passes start (lines t) ≡ true
  pub unended : ends (after_lines start (lines t)) ≡ false

-- a text that breaks none of these yields the policy of its lines
pub record Whole (t : List ℕ) (p : Policy) : Type 0 where
  pub short : length t ≤ text_bytes
  pub sound : passes start (lines t) ≡ true
  pub ended : ends (after_lines start (lines t)) ≡ true
  pub policy : (after_lines start (lines t)).policy ≡ p

abbrev pub Because : List ℕ → Outcome → Type 0
Because t (Accepted p) = Whole t p
Because t (Refused n line) = TooLong t n line ⊎ (Faulty t n line ⊎ Endless t n line)
