-- When an action is granted at a user set and an object set: by its formula, or by one of its pairs.
use Rattle.std.specs.Prelude.{ℕ, ◌+◌, Bool, true, false, not, ◌&&◌, ◌||◌, List, [], ◌∷◌, eqb}
use Rattle.basis.specs.Choice.{given}
use Rattle.basis.specs.Lists.{any}
use Rattle.basis.specs.Numbers.{every, agree, implies}
use Rattle.sets.specs.Set.{has}
use Rattle.seniority.specs.Seniority.{held_or_senior, held_or_junior}
use Rattle.words.specs.declared.Word.{Word}
use Rattle.words.specs.declared.Word.TheVariants.{True, False, Holds, Compares, Not, And, Or}
use Rattle.words.specs.declared.Holding.{Holding}
use Rattle.words.specs.declared.Holding.TheVariants.{User, Object}
use Rattle.words.specs.declared.Comparison.{Comparison}
use Rattle.words.specs.declared.Comparison.TheVariants.{Dominates, Equals}
use Rattle.policy.specs.Policy.{Side, Policy, width, start, formula_in}
use Rattle.policy.specs.Checks.{sizes, equal_width}
use Rattle.policy.specs.declared.value.Pair.{Pair}

-- the sets at which an action is granted or denied: a user set and an object set
pub record Sets : Type 0 where
  pub user : ℕ
  pub object : ℕ

abbrev pub at : ℕ → ℕ → Sets
at u o = record { user = u; object = o }

-- "`uV`: the user set holds V or a senior of V. `oV`: the object set holds V or a junior of V."
abbrev pub holds : Policy → Sets → Holding → Bool
holds p s (User v) = held_or_senior p.user.lines s.user v
holds p s (Object v) = held_or_junior p.object.lines s.object v

-- "A place is a value's offset in its attribute": place k of attribute i is held in a set of this side
abbrev pub place_held : Side → ℕ → ℕ → ℕ → Bool
place_held side i set k = has set (start side i + k)

-- "held in I, or have a senior in I that is held": a line of seniority joins values of one attribute, so that every
-- senior of a value of I is in I, which demand 2 says in full
abbrev pub place_covered : Side → ℕ → ℕ → ℕ → Bool
place_covered side i set k = held_or_senior side.lines set (start side i + k)

-- "`dIJ`": equal width, and "each place held in J must be held in I, or have a senior in I that is held". "`qIJ`: equal
-- width, the same places held."
abbrev pub compares : Policy → Sets → Comparison → Bool
compares p s (Dominates i j) =
    equal_width (sizes p) i j
    && every (λ k. implies (place_held p.object j s.object k) (place_covered p.user i s.user k)) (width p.user i)
compares p s (Equals i j) =
    equal_width (sizes p) i j
    && every (λ k. agree (place_held p.object j s.object k) (place_held p.user i s.user k)) (width p.user i)

-- the top of the stack and what lies below it; refusal 9 keeps a formula from looking below an empty stack, where false
-- lies
abbrev pub top : List Bool → Bool
top [] = false
top (b ∷ bs) = b

abbrev pub below : List Bool → List Bool
below [] = []
below (b ∷ bs) = bs

-- "Words work on a stack, in text order." "`t`, `f`: push true, false. `n`: not. `a`, `r`: and, or of the top two."
unfoldable pub step : Policy → Sets → Word → List Bool → List Bool
step p s True bs = true ∷ bs
step p s False bs = false ∷ bs
step p s (Holds h) bs = holds p s h ∷ bs
step p s (Compares c) bs = compares p s c ∷ bs
step p s Not bs = not (top bs) ∷ below bs
step p s And bs = (top (below bs) && top bs) ∷ below (below bs)
step p s Or bs = (top (below bs) || top bs) ∷ below (below bs)

unfoldable pub run : Policy → Sets → List Word → List Bool → List Bool
run p s [] bs = bs
run p s (w ∷ ws) bs = run p s ws (step p s w bs)

-- a formula is true where it leaves true
unfoldable pub truth : Policy → Sets → List Word → Bool
truth p s ws = top (run p s ws [])

-- an action without a rule: "its formula counts as false"
unfoldable pub formula_true : Policy → ℕ → Sets → Bool
formula_true p a s = given (formula_in p.rules a) false (truth p s)

-- "the user set holds V or a senior of it and the object set W or a junior of it"
abbrev pub pair_holds : Policy → Sets → Pair → Bool
pair_holds p s x = holds p s (User x.user) && holds p s (Object x.object)

-- a pair line of the action holds
unfoldable pub pair_true : Policy → ℕ → Sets → Bool
pair_true p a s = any (λ x. eqb x.action a && pair_holds p s x) p.pairs

-- "Action A is granted when its formula is true, or when" one of its pairs holds
unfoldable pub grants : Policy → ℕ → Sets → Bool
grants p a s = formula_true p a s || pair_true p a s
