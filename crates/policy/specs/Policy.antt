-- What a policy text says: its lines by kind, in text order. Every definition of a policy's meaning speaks of this.
use Rattle.std.specs.Prelude.{ℕ, zero, suc, ◌-◌, ◌^◌, Bool, cond, ◌||◌, List, [], ◌∷◌, eqb, ltb, get_or, take, Option, None, Some}
use Rattle.basis.specs.Choice.{there}
use Rattle.basis.specs.Lists.{any, sum}
use Rattle.seniority.specs.declared.Direct.{Direct}
use Rattle.words.specs.declared.Word.{Word}
use Rattle.policy.specs.declared.value.Entry.{Entry}
use Rattle.policy.specs.declared.value.Conflict.{Conflict}
use Rattle.policy.specs.declared.value.Pair.{Pair}

-- users or objects: the widths of the attributes, and the direct seniorities
pub record Side : Type 0 where
  pub widths : List ℕ
  pub lines : List Direct

abbrev pub conflict : ℕ → ℕ → Conflict
conflict s k = record { set = s; most = k }

pub record Rule : Type 0 where
  pub action : ℕ
  pub words : List Word

abbrev pub pair : ℕ → ℕ → ℕ → Pair
pair a v w = record { action = a; user = v; object = w }

pub record Policy : Type 0 where
  pub form : ℕ
  pub user : Side
  pub object : Side
  pub users : List Entry
  pub objects : List Entry
  pub conflicts : List Conflict
  pub rules : List Rule
  pub pairs : List Pair

abbrev pub blank_side : Side
blank_side = record { widths = []; lines = [] }

-- before the first line
unfoldable pub blank : Policy
blank = record { form = 0; user = blank_side; object = blank_side; users = []; objects = []; conflicts = []; rules = []; pairs = [] }

-- U of the user side, O of the object side: "values are numbered from 0 through all attributes"
unfoldable pub total : Side → ℕ
total s = sum s.widths

-- how many sets a side has: "S is below 2^U"
abbrev pub sets : Side → ℕ
sets s = 2 ^ total s

-- the width of attribute i, and its first value
abbrev pub width : Side → ℕ → ℕ
width s i = get_or s.widths i 0

unfoldable pub start : Side → ℕ → ℕ
start s i = sum (take i s.widths)

-- the attribute that value v is in
unfoldable pub attribute_of : List ℕ → ℕ → ℕ
attribute_of [] v = zero
attribute_of (w ∷ ws) v = cond (ltb v w) zero (suc (attribute_of ws (v - w)))

-- the set of a registered user or object
unfoldable pub set_of_number : List Entry → ℕ → Option ℕ
set_of_number [] n = None
set_of_number (e ∷ es) n = cond (eqb e.number n) (Some e.set) (set_of_number es n)

-- the formula of an action, where it has a rule
unfoldable pub formula_in : List Rule → ℕ → Option (List Word)
formula_in [] a = None
formula_in (r ∷ rs) a = cond (eqb r.action a) (Some r.words) (formula_in rs a)

-- an action "with a rule or a pair"
unfoldable pub named : Policy → ℕ → Bool
named p a = there (formula_in p.rules a) || any (λ x. eqb x.action a) p.pairs
