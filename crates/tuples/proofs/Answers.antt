-- Listing and deciding by tuples, answer by answer: which of the tests 11, 12, 19 and 20 come out how.
use Rattle.std.specs.Prelude.{Result, Ok, Err}
use Rattle.std.specs.List.{list_any}
use Prim.Native.Nat.{ℕ, ◌≤◌, ◌<◌}
use mathlib.Core.Path.{◌≡◌, refl, ap}
use mathlib.Core.Bool.{Bool, true, false, ◌||◌}
use mathlib.Core.List.{List, [], ◌∷◌, map}
use lib.Dec.{eqb}
use lib.ListN.{length, take}
use borrow.Author.Tests.{le-leb, lt-leb, lt-ltb, le-ltb}
use Rattle.basis.specs.Choice.{first_broken}
use Rattle.basis.specs.Lists.{any, over}
use Rattle.basis.proofs.Bools.{and_left}
use Rattle.policy.specs.Policy.{Policy}
use Rattle.policy.specs.Value.{policy_of, side_of}
use Rattle.policy.specs.Answers.{refused, decided}
use Rattle.policy.specs.Limits.{actions}
use Rattle.policy.specs.declared.value.PolicyValue.{PolicyValue}
use Rattle.formula.specs.Truth.{Sets}
use Rattle.formula.specs.Decide.{lacking}
use Rattle.formula.specs.Inner.Fits.{ValueFits}
use Rattle.formula.specs.Inner.Grant.{GrantOf}
use Rattle.formula.specs.Inner.Lane.{AttributesOf}
use Rattle.formula.specs.Inner.Source.{SourceOf}
use Rattle.formula.specs.declared.attributes.Attributes.{Attributes}
use Rattle.formula.specs.declared.blocks.Source.{Source}
use Rattle.formula.specs.declared.grant.Grant.{Grant}
use Rattle.formula.proofs.Checked.{valid-fits}
use Rattle.tuples.specs.Tuples.{stored, tuples, fits_bits, list, list_buffer, decide_by_tuples}
use Rattle.tuples.specs.Inner.Blocks.{StripOf, Begun}

-- ---- listing

-- the answer, and the buffer afterwards
abbrev Listed : PolicyValue → ℕ → ℕ → List ℕ → Result ℕ ℕ → List ℕ → Type 0
Listed v bits a buffer r after = (r ≡ list v bits a buffer) × (after ≡ list_buffer v bits a buffer)

module _ (v : PolicyValue) (bits a : ℕ) (buffer : List ℕ) where
  pub list-invalid : fits_bits v bits ≡ false → Listed v bits a buffer (Err 11) buffer
  unfolding list list_buffer first_broken
  list-invalid e = rw e (refl, refl)

  module _ (e : fits_bits v bits ≡ true) where
    pub list-no_action : actions v.form ≤ a → Listed v bits a buffer (Err 12) buffer
    unfolding list list_buffer first_broken policy_of
    list-no_action h = rw (e, le-leb (actions v.form) a h) (refl, refl)

    pub list-no_room : a < actions v.form → length buffer < length (tuples (policy_of v) a) → Listed v bits a buffer (Err 20) buffer
    unfolding list list_buffer first_broken policy_of
    list-no_room h l = rw (e, lt-leb (actions v.form) a h, lt-ltb (length buffer) (length (tuples (policy_of v) a)) l) (refl, refl)

    pub list-stored : a < actions v.form → length (tuples (policy_of v) a) ≤ length buffer
        → Listed v bits a buffer (Ok (length (tuples (policy_of v) a))) (over (tuples (policy_of v) a) buffer)
    unfolding list list_buffer first_broken policy_of
    list-stored h l = rw (e, lt-leb (actions v.form) a h, le-ltb (length buffer) (length (tuples (policy_of v) a)) l) (refl, refl)

-- where the attributes lie is the policy's
pub sides-of : (v : PolicyValue) (x : Attributes) → ((p : Policy) → p.user ≡ side_of v.user → p.object ≡ side_of v.object → AttributesOf p x)
    → AttributesOf (policy_of v) x
unfolding policy_of
sides-of v x h = h (policy_of v) refl refl

-- what the pairs of sets are worked out from too the policy's
pub source-of : (v : PolicyValue) {x : Source} {objects : List ℕ} → ((p : Policy) → p.user ≡ side_of v.user → p.object ≡ side_of v.object → SourceOf p x objects)
    → SourceOf (policy_of v) x objects
unfolding policy_of
source-of v h = h (policy_of v) refl refl

-- and so its tuples are, by the marks of the first strip
pub begun : (v : PolicyValue) (a : ℕ) {x : Source} {objects words : List ℕ} {grant : Grant} {n : ℕ}
    → ((p : Policy) → p.user ≡ side_of v.user → p.object ≡ side_of v.object → SourceOf p x objects) → GrantOf (policy_of v) a grant
    → ((p : Policy) (b : ℕ) → SourceOf p x objects → GrantOf p b grant → StripOf p b 0 n words) → Begun (policy_of v) a x objects grant n words
begun v a h g s = record { source = source-of v h; grants = g; first = s (policy_of v) a (source-of v h) g }

pub fits : (v : PolicyValue) (bits : ℕ) → fits_bits v bits ≡ true → ValueFits v
fits v bits h = valid-fits v (and_left _ _ h)

-- ---- deciding

-- a test of the numbers that stored ones stand for
pub any-numbers : {S : Type 0} (test : ℕ → Bool) (number : S → ℕ) (xs : List S) → list_any (λ s. test (number s)) xs ≡ any test (map number xs)
unfolding any
any-numbers test number [] = refl
any-numbers test number (x ∷ xs) = ap (λ b. test (number x) || b) (any-numbers test number xs)

module _ (v : PolicyValue) (bits : ℕ) (s : Sets) (listing : List ℕ) (n : ℕ) where
  pub decide-invalid : fits_bits v bits ≡ false → refused 11 ≡ decide_by_tuples v bits s listing n
  unfolding decide_by_tuples first_broken
  decide-invalid e = rw e

  module _ (e : fits_bits v bits ≡ true) where
    pub decide-no_set : lacking (policy_of v) s ≡ true → refused 19 ≡ decide_by_tuples v bits s listing n
    unfolding decide_by_tuples first_broken
    decide-no_set l = rw (e, l)

    module _ (l : lacking (policy_of v) s ≡ false) where
      pub decide-too_many : length listing < n → refused 20 ≡ decide_by_tuples v bits s listing n
      unfolding decide_by_tuples first_broken
      decide-too_many h = rw (e, l, lt-ltb (length listing) n h)

      pub decide-by_listing : n ≤ length listing → (r b : Bool) → r ≡ any (eqb (stored (policy_of v) s)) (take n listing) → r ≡ b
          → decided b ≡ decide_by_tuples v bits s listing n
      unfolding decide_by_tuples first_broken
      decide-by_listing h r b g q = rw (e, l, le-ltb (length listing) n h, ← g, q)
