-- Blocks of 64 numbers, and what many pairs of sets of a policy are worked out from.
use Rattle.std.specs.Prelude.{ℕ, ◌+◌, ◌-◌, ◌*◌, ◌/◌, ◌%◌, ◌^◌, ◌<◌, ◌≡◌, Bool, false, List}
use Rattle.policy.specs.Limits.{most_sets}
use Rattle.policy.specs.Policy.{Side, Policy, total}
use Rattle.policy.specs.Value.{side_of}
use Rattle.formula.specs.Inner.Fits.{SideFits}
use Rattle.formula.specs.Inner.Lane.{lane_bits, lanes, vector_places, in_block, AttributesOf, Stands, grown_by}
use Rattle.formula.specs.declared.blocks.Source.{Source}

-- how many blocks 2^n numbers have: one where they do not fill it
unfoldable pub blocks_of : ℕ → ℕ
blocks_of n = 2 ^ (n - lane_bits)

-- the most blocks of a side, and room for the vectors of as many
abbrev pub most_blocks : ℕ
most_blocks = most_sets / lanes

abbrev pub side_vectors : ℕ
side_vectors = vector_places * most_blocks

-- vectors with a block of the sets of a side for each of the n values' blocks: block b has those of the numbers from
-- 64 b on
abbrev pub Numbered : Bool → Side → ℕ → List ℕ → Type 0
Numbered user s n vectors =
    (b k : ℕ) → b < blocks_of n → k < lanes → Stands (grown_by user s.lines) (in_block vectors (blocks_of n) b) k ((b * lanes + k) % 2 ^ n)

-- what the pairs of sets of the policy are worked out from, with the vectors of its object sets
pub record SourceOf (p : Policy) (x : Source) (objects : List ℕ) : Type 0 where
  pub sides : AttributesOf p x.sides
  pub user : p.user ≡ side_of x.user
  pub fits : SideFits x.user
  pub blocks : x.blocks ≡ blocks_of (total p.object)
  pub numbered : Numbered false p.object (total p.object) objects
