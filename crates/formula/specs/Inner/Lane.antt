-- 64 pairs of a user set and an object set are a block: bit k of a number says what holds in lane k. What the
-- evaluator's vectors stand for, one block or several at once.
use Rattle.std.specs.Prelude.{ℕ, zero, suc, ◌+◌, ◌*◌, ◌^◌, ◌≤◌, ◌<◌, ◌≡◌, Bool, true, false, ◌&&◌, ◌||◌, List, [], ◌∷◌, length, get_or, set}
use Rattle.std.specs.Int.Bits.{bit_or}
use Rattle.basis.specs.Numbers.{agree, implies}
use Rattle.sets.specs.Set.{has}
use Rattle.seniority.specs.Seniority.{held_or_senior, held_or_junior}
use Rattle.seniority.specs.declared.Direct.{Direct}
use Rattle.policy.specs.Limits.{most_values}
use Rattle.policy.specs.Value.{word_places}
use Rattle.policy.specs.Policy.{Side, Policy, total, start}
use Rattle.formula.specs.Truth.{Sets, at}
use Rattle.formula.specs.declared.attributes.Attributes.{Attributes}

-- a lane is a bit's place in a word of the machine, and a place is a number of so many bits
abbrev pub lane_bits : ℕ
lane_bits = 6

abbrev pub lanes : ℕ
lanes = 2 ^ lane_bits

-- a side has a vector for each value, twice
abbrev pub vector_places : ℕ
vector_places = 2 * most_values

-- ---- places

-- the number at place i
abbrev pub within : List ℕ → ℕ → ℕ
within xs i = get_or xs i 0

-- the number of block b at place i, where each place has n of them, one for each block
abbrev pub in_block : List ℕ → ℕ → ℕ → ℕ → ℕ
in_block xs n b i = get_or xs (i * n + b) 0

-- what is put on place i for each of n blocks, and all else is left
pub record Placed (n i : ℕ) (P : ℕ → ℕ → Type 0) (old new : List ℕ) : Type 0 where
  pub long : length new ≡ length old
  pub here : (b : ℕ) → b < n → P b (in_block new n b i)
  pub kept : (b j : ℕ) → b < n → (j ≡ i → ⊥) → in_block new n b j ≡ in_block old n b j

-- ---- attributes

-- the first values of a side's attributes and, past these, the number of its values
pub record Starts (s : Side) (xs : List ℕ) : Type 0 where
  pub few : length s.widths ≤ most_values
  pub most : total s ≤ most_values
  pub at : (i : ℕ) → i ≤ most_values → get_or xs i 0 ≡ start s i

pub record AttributesOf (p : Policy) (x : Attributes) : Type 0 where
  pub user : Starts p.user x.user
  pub object : Starts p.object x.object

-- ---- sets

-- lane k of a side's vectors holds the set s, twice
pub record Plain (vectors : List ℕ) (k s : ℕ) : Type 0 where
  pub below : s < 2 ^ most_values
  pub held : (v : ℕ) → v < most_values → has (get_or vectors v 0) k ≡ has s v
  pub again : (v : ℕ) → v < most_values → has (get_or vectors (most_values + v) 0) k ≡ has s v

-- lane k stands for the set s: it holds s and, the second time, what seniority makes of it
pub record Stands (grown : ℕ → ℕ → Bool) (vectors : ℕ → ℕ) (k s : ℕ) : Type 0 where
  pub held : (v : ℕ) → v < most_values → has (vectors v) k ≡ has s v
  pub taken : (v : ℕ) → v < most_values → has (vectors (most_values + v)) k ≡ grown s v
  pub past : (v : ℕ) → most_values ≤ v → grown s v ≡ false

-- the vectors, with b in the second half where it holds a
abbrev pub extended_lanes : List ℕ → ℕ → ℕ → List ℕ
extended_lanes vectors a b =
    set vectors (most_values + b) (bit_or (get_or vectors (most_values + b) 0) (get_or vectors (most_values + a) 0))

-- ---- by side: the user side, or else the object side

abbrev pub side_at : Bool → Policy → Side
side_at true p = p.user
side_at false p = p.object

-- what seniority makes of the sets of a side
abbrev pub grown_by : Bool → List Direct → ℕ → ℕ → Bool
grown_by true lines = held_or_senior lines
grown_by false lines = held_or_junior lines

-- a set of a side with one of the other
abbrev pub beside : Bool → ℕ → ℕ → Sets
beside true s other = at s other
beside false s other = at other s

-- ---- both sides

-- lane k stands for these sets
pub record InLane (p : Policy) (users objects : ℕ → ℕ) (k : ℕ) (s : Sets) : Type 0 where
  pub lane : k < lanes
  pub user : Stands (held_or_senior p.user.lines) users k s.user
  pub object : Stands (held_or_junior p.object.lines) objects k s.object

-- so does lane k of block b, where each vector has n numbers
abbrev pub InBlock : Policy → List ℕ → List ℕ → ℕ → ℕ → ℕ → Sets → Type 0
InBlock p users objects n b k s = InLane p (in_block users n b) (in_block objects n b) k s

-- ---- words

-- whether a set has value v, alone or as seniority makes it
abbrev pub held_as : Bool → (ℕ → ℕ → Bool) → ℕ → ℕ → Bool
held_as true grown s v = has s v
held_as false grown s v = grown s v

-- whether a place passes a comparison, by whether the object set and the user set have it
abbrev pub passes : Bool → Bool → Bool → Bool
passes true o u = agree o u
passes false o u = implies o u

-- both of two truth values, or else either
abbrev pub combined : Bool → Bool → Bool → Bool
combined true a b = a && b
combined false a b = a || b

-- bit k of the d lowest places of a stack, the top first
unfoldable pub column : (ℕ → ℕ) → ℕ → ℕ → List Bool
column stack zero k = []
column stack (suc d) k = has (stack d) k ∷ column stack d k

-- a stack has a place for each word of a formula, and one below them
abbrev pub stack_places : ℕ
stack_places = word_places + 1

-- ---- entries

-- the width of a table entry, which has a bit for each action
abbrev pub entry_bits : ℕ
entry_bits = 16
