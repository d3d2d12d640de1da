-- What a call with a list of checks answers: "its result or one numbered refusal".
use Rattle.std.specs.Prelude.{ℕ, ◌≡◌, true, not, List, ◌∷◌, ◌++◌, map, ◌⊎◌}
use Rattle.basis.specs.Choice.{Check, check}
use Rattle.basis.specs.Lists.{all}

-- no condition of the checks holds
abbrev pub Unmet : List Check → Type 0
Unmet cs = all (λ c. not c.broken) cs ≡ true

-- "A refusal is one of these numbers, returned only where its condition holds", and the first in the order of testing:
-- a check of the list has the number and its condition holds, and that of none before it does.
pub record Met (cs : List Check) (n : ℕ) : Type 0 where
  pub before : List Check
  pub behind : List Check
  pub listed : cs ≡ before ++ (check n true ∷ behind)
  pub earlier : Unmet before

-- a call that refuses by the numbers ns, each by its check: it gives its result where no condition holds, and else one
-- refusal
pub record Answers (ns : List ℕ) (cs : List Check) (Result : Type 0) (Refusal : ℕ → Type 0) : Type 0 where
  pub refusals : map (λ c. c.number) cs ≡ ns
  pub answer : (Unmet cs × Result) ⊎ ((n : ℕ) × Met cs n × Refusal n)
