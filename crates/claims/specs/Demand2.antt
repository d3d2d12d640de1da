-- Demand 2: "a policy means what the corrected Biswas–Sandhu–Krishnan model says: formulas decide by the sets held, a
-- tuple grants only on equal sets, alike sets are those no formula parts, sessions hold what the LaBAC rules allow.
-- Writing and reading back gives the same policy; an accepted text is written back unchanged." By document 02 pairs
-- decide and part sets as formulas do, dominance follows seniority, and sessions keep to conflicts.
use Rattle.std.specs.Prelude.{ℕ, ◌+◌, ◌≤◌, ◌<◌, ◌≡◌, true, ◌↔◌, ◌⊎◌, length, get_or, take, Some, Ok, Option, None, Result, Err}
use mathlib.Core.List.{List, Memᴰ}
use Rattle.basis.specs.Lists.{over}
use Rattle.sets.specs.Set.{within}
use Rattle.seniority.specs.Seniority.{Senior, held_or_senior, held_or_junior}
use Rattle.words.specs.declared.Word.{Word}
use Rattle.words.specs.declared.Comparison.TheVariants.{Dominates}
use Rattle.policy.specs.Limits.{actions, tuple_bits}
use Rattle.policy.specs.Policy.{Side, Policy, sets, width, start, set_of_number, formula_in}
use Rattle.policy.specs.Read.{Accepted, read_text}
use Rattle.policy.specs.Text.{text_of}
use Rattle.policy.specs.Value.{value_of, policy_of}
use Rattle.policy.specs.Valid.{Yielded, valid}
use Rattle.policy.specs.Write.{write, write_buffer}
use Rattle.policy.specs.Answers.{granted, denied}
use Rattle.policy.specs.declared.value.Conflict.{Conflict}
use Rattle.policy.specs.declared.value.Pair.{Pair}
use Rattle.policy.specs.declared.value.PolicyValue.{PolicyValue}
use Rattle.policy.specs.declared.refusal.Refusal.{Refusal}
use Rattle.formula.specs.Truth.{Sets, at, place_held, compares, truth, grants}
use Rattle.formula.specs.Decide.{decide}
use Rattle.tuples.specs.Tuples.{stored, decide_by_tuples}
use Rattle.labels.specs.Compile.{user_label, object_label}
use Rattle.labels.specs.Apart.{Separates, Tells}
use Rattle.labels.specs.declared.Witness.{Witness}
use Rattle.board.specs.Machine.{Call, Entry, machine, reach_of, together}

-- sets of the policy's sides
abbrev pub OfSides : Policy → Sets → Type 0
OfSides p s = (s.user < sets p.user) × (s.object < sets p.object)

-- ---- "formulas decide by the sets held", and pairs

-- the action has a formula, and it is true at these sets
pub record FormulaTrue (p : Policy) (a : ℕ) (s : Sets) : Type 0 where
  pub words : List Word
  pub formula : formula_in p.rules a ≡ Some words
  pub holds : truth p s words ≡ true

-- the action has a pair line, and "the user set holds V or a senior of it and the object set W or a junior of it"
pub record PairTrue (p : Policy) (a : ℕ) (s : Sets) : Type 0 where
  pub pair : Pair
  pub line : Memᴰ pair p.pairs
  pub action : pair.action ≡ a
  pub user : held_or_senior p.user.lines s.user pair.user ≡ true
  pub object : held_or_junior p.object.lines s.object pair.object ≡ true

pub record Decides (p : Policy) (a : ℕ) (s : Sets) : Type 0 where
  pub by_either : (decide (value_of p) a s ≡ granted) ↔ (FormulaTrue p a s ⊎ PairTrue p a s)
  pub else_denied : (decide (value_of p) a s ≡ granted) ⊎ (decide (value_of p) a s ≡ denied)

-- ---- "In `dIJ` each place held in J must be held in I, or have a senior in I that is held"

-- place k of attribute i is held, or another place of the attribute, with a value senior to that of place k
abbrev pub Covered : Side → ℕ → ℕ → ℕ → Type 0
Covered side i set k =
    (place_held side i set k ≡ true)
    ⊎ ((m : ℕ) × (m < width side i) × Senior side.lines (start side i + m) (start side i + k) × (place_held side i set m ≡ true))

pub record Covers (p : Policy) (s : Sets) (i j : ℕ) : Type 0 where
  pub equally_wide : width p.user i ≡ width p.object j
  pub each-place : (k : ℕ) → k < width p.user i → place_held p.object j s.object k ≡ true → Covered p.user i s.user k

-- ---- "a tuple grants only on equal sets", whatever the listing

-- one of the first count entries is the pair's number
pub record Among (listing : List ℕ) (count number : ℕ) : Type 0 where
  pub place : ℕ
  pub counted : place < count
  pub equal : get_or listing place 0 ≡ number

pub record EqualSets (p : Policy) (s : Sets) : Type 0 where
  pub by_tuples : (listing : List ℕ) (count : ℕ) → count ≤ length listing
      → (decide_by_tuples (value_of p) (tuple_bits p.form) s listing count ≡ granted) ↔ Among listing count (stored p s)
  -- two pairs with one number are the same pair
  pub once : (r : Sets) → OfSides p r → stored p s ≡ stored p r → s ≡ r

-- ---- "alike sets are those no formula parts", and no pair: in labels, and as Apart tells it

abbrev pub NoneParts : Policy → ℕ → ℕ → Type 0
NoneParts p u w = (a o : ℕ) → a < actions p.form → o < sets p.object → grants p a (at u o) ≡ grants p a (at w o)

abbrev pub NonePartsObjects : Policy → ℕ → ℕ → Type 0
NonePartsObjects p o q = (a u : ℕ) → a < actions p.form → u < sets p.user → grants p a (at u o) ≡ grants p a (at u q)

-- an answer of Apart
pub record Told (p : Policy) (u w : ℕ) (r : Result (Option Witness) Refusal) : Type 0 where
  pub alike : (r ≡ Ok None) ↔ NoneParts p u w
  pub apart : (x : Witness) → r ≡ Ok (Some x) → Separates p u w x.action x.object
  pub never-refused : (n : Refusal) → r ≡ Err n → ⊥

-- two user sets have one label exactly when no action and no object set tells them apart; object sets likewise
pub record AlikeSets (p : Policy) : Type 0 where
  pub users : (u w : ℕ) → u < sets p.user → w < sets p.user → (user_label p u ≡ user_label p w) ↔ NoneParts p u w
  pub objects : (o q : ℕ) → o < sets p.object → q < sets p.object → (object_label p o ≡ object_label p q) ↔ NonePartsObjects p o q
  pub told : (u w : ℕ) → u < sets p.user → w < sets p.user → (r : Result (Option Witness) Refusal) → Tells (value_of p) u w r → Told p u w r

-- ---- "sessions hold what the LaBAC rules allow", and conflicts

-- after any list of calls, an open session's user is registered and holds only values in reach, and "of the values in
-- user set S .. at most K" for every conflict
pub record Allowed (t : List ℕ) (p : Policy) (calls : List Call) : Type 0 where
  pub registered : (k : ℕ) (e : Entry) → (machine t calls).state k ≡ Some e → (s : ℕ) × (set_of_number p.users e.user ≡ Some s)
  pub in_reach : (k : ℕ) (e : Entry) → (machine t calls).state k ≡ Some e → within e.held (reach_of p e.user) ≡ true
  pub few-together : (k : ℕ) (e : Entry) → (machine t calls).state k ≡ Some e → (c : Conflict) → Memᴰ c p.conflicts → together p e.held c ≤ c.most

-- ---- texts both ways

-- "an accepted text is written back unchanged": by the value that reading it yields, into any buffer long enough
pub record WrittenBack (t : List ℕ) (p : Policy) (buffer : List ℕ) : Type 0 where
  pub count : write (value_of p) buffer ≡ Ok (length t)
  pub bytes : write_buffer (value_of p) buffer ≡ over t buffer

-- the value passes check 11 and says what the text says
pub record Said (p : Policy) : Type 0 where
  pub passes : valid (value_of p) ≡ true
  pub says : policy_of (value_of p) ≡ p

pub record Demand2 (t : List ℕ) (p : Policy) : Type 0 where
  pub decides : (a : ℕ) (s : Sets) → a < actions p.form → OfSides p s → Decides p a s
  pub dominates : (s : Sets) (i j : ℕ) → (compares p s (Dominates i j) ≡ true) ↔ Covers p s i j
  pub equal-sets : (s : Sets) → OfSides p s → EqualSets p s
  pub alike : AlikeSets p
  pub allowed : (calls : List Call) → Allowed t p calls
  pub said : Said p
  pub written_back : (buffer : List ℕ) → length t ≤ length buffer → WrittenBack t p buffer

abbrev pub Claim : Type 0
Claim = (t : List ℕ) (p : Policy) → read_text t ≡ Accepted p → Demand2 t p

-- "Writing and reading back gives the same policy": reading the bytes that writing stored, as many as it returned,
-- yields the value
pub record ReadBack (v : PolicyValue) (buffer : List ℕ) : Type 0 where
  pub count : ℕ
  pub returned : write v buffer ≡ Ok count
  pub policy : Policy
  pub accepted : read_text (take count (write_buffer v buffer)) ≡ Accepted policy
  pub same : value_of policy ≡ v

-- for every value that check 11 passes and every buffer long enough
abbrev pub WriteClaim : Type 0
WriteClaim = (v : PolicyValue) → valid v ≡ true → (buffer : List ℕ) → length (text_of (policy_of v)) ≤ length buffer → ReadBack v buffer

-- check 11 passes exactly what reading some accepted text yields
abbrev pub CheckClaim : Type 0
CheckClaim = (v : PolicyValue) → (valid v ≡ true) ↔ Yielded v
