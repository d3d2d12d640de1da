-- "Using the same direction of seniority for objects as for users" is false: `u1` is true of a set that holds only a
-- senior of value 1, `o1` of one that holds only a junior. By computation.
use Prim.Native.Nat.{ℕ}
use mathlib.Core.Path.{◌≡◌, refl}
use mathlib.Core.Bool.{Bool, true, false}
use mathlib.Core.List.{[], ◌∷◌}
use Rattle.basis.specs.Lists.{any}
use Rattle.seniority.specs.Seniority.{direct, chain, senior, held_or_senior, held_or_junior}
use Rattle.words.specs.declared.Word.TheVariants.{Holds}
use Rattle.words.specs.declared.Holding.{Holding}
use Rattle.words.specs.declared.Holding.TheVariants.{User, Object}
use Rattle.policy.specs.Policy.{Side, Policy}
use Rattle.formula.specs.Truth.{at, step, run, truth}

-- on both sides three values, 2 senior to 1 and 1 to 0
abbrev three_values : Side
three_values = record { widths = 3 ∷ []; lines = direct 1 0 ∷ direct 2 1 ∷ [] }

abbrev policy : Policy
policy = record { form = 1; user = three_values; object = three_values; users = []; objects = []; conflicts = []; rules = []; pairs = [] }

-- the truth of one word where both sets hold the same one value, given as its set
abbrev both : Holding → ℕ → Bool
both h set = truth policy (at set set) (Holds h ∷ [])

pub senior-user : both (User 1) 4 ≡ true
unfolding any chain senior held_or_senior held_or_junior step run truth
senior-user = refl

pub junior_user : both (User 1) 1 ≡ false
unfolding any chain senior held_or_senior held_or_junior step run truth
junior_user = refl

pub junior_object : both (Object 1) 1 ≡ true
unfolding any chain senior held_or_senior held_or_junior step run truth
junior_object = refl

pub senior-object : both (Object 1) 4 ≡ false
unfolding any chain senior held_or_senior held_or_junior step run truth
senior-object = refl
