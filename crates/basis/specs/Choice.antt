-- Choosing among cases.
use Rattle.std.specs.Prelude.{ℕ, Bool, true, false, cond, List, [], ◌∷◌, Option, None, Some, Result, Ok, Err}

-- what follows from a value that may be missing
abbrev pub given : {A B : Type 0} → Option A → B → (A → B) → B
given None b f = b
given (Some a) b f = f a

-- whether there is a value
abbrev pub there : {A : Type 0} → Option A → Bool
there None = false
there (Some a) = true

-- a refusal's number, and whether its condition is met
pub record Check : Type 0 where
  pub number : ℕ
  pub broken : Bool

abbrev pub check : ℕ → Bool → Check
check n b = record { number = n; broken = b }

-- the refusal: the first of the checks, which stand in the order of testing, that is broken. Document 01 tests in the
-- order of the numbers ("the lowest that applies"); document 02 puts a higher number between two of these
unfoldable pub first_broken : List Check → Option ℕ
first_broken [] = None
first_broken (c ∷ cs) = cond c.broken (Some c.number) (first_broken cs)

-- what a call gives where no check is broken, and else the number of its refusal
abbrev pub unless_refused : {A : Type 0} → List Check → A → Result A ℕ
unless_refused cs a = given (first_broken cs) (Ok a) Err
