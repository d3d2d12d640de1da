-- Seniority. "Senior means a chain of one or more direct lines; junior is the converse."
use Rattle.std.specs.Prelude.{ℕ, zero, suc, Bool, false, ◌&&◌, ◌||◌, eqb}
use mathlib.Core.List.{List, Memᴰ}
use Rattle.basis.specs.Lists.{any}
use Rattle.sets.specs.Set.{has, set_of}
use Rattle.seniority.specs.declared.Direct.{Direct}

abbrev pub direct : ℕ → ℕ → Direct
direct v j = record { senior = v; junior = j }

-- v is senior to j: a chain of one or more direct lines leads from v to j
pub data Senior (ls : List Direct) : ℕ → ℕ → Type 0 where
  one : {v j : ℕ} → Memᴰ (direct v j) ls → Senior ls v j
  more : {v k j : ℕ} → Memᴰ (direct v k) ls → Senior ls k j → Senior ls v j

-- a test of it: some chain of at most n lines leads from v to j
unfoldable pub chain : List Direct → ℕ → ℕ → ℕ → Bool
chain ls zero v j = false
chain ls (suc n) v j = any (λ l. eqb l.senior v && (eqb l.junior j || chain ls n l.junior j)) ls

-- each line goes from a value to a lower one, so no chain from v has more than v lines; `senior-iff` ties the test to
-- the chains
unfoldable pub senior : List Direct → ℕ → ℕ → Bool
unfolding chain
senior ls v j = chain ls v v j

-- "holds V or a senior of V": every senior is the upper value of some line
unfoldable pub held_or_senior : List Direct → ℕ → ℕ → Bool
unfolding senior
held_or_senior ls s v = has s v || any (λ l. has s l.senior && senior ls l.senior v) ls

-- "holds V or a junior of V"
unfoldable pub held_or_junior : List Direct → ℕ → ℕ → Bool
unfolding senior
held_or_junior ls s v = has s v || any (λ l. has s l.junior && senior ls v l.junior) ls

-- "A user's reach is the assigned values and all juniors of them": those of the n values that are assigned or have a
-- senior that is
unfoldable pub reach : List Direct → ℕ → ℕ → ℕ
unfolding held_or_senior
reach ls n s = set_of (held_or_senior ls s) n
