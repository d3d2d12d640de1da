-- What the code asks of a side's lines, and what it does at each.
use Rattle.std.specs.Prelude.{ℕ, ◌^◌, ◌≤◌, ◌<◌, cond, List, [], ◌∷◌}
use Rattle.sets.specs.Set.{has, union}
use Rattle.seniority.specs.declared.Direct.{Direct}

-- the bits of a number that holds a set
abbrev pub word_bits : ℕ
word_bits = 32

-- no line has an upper value below v
abbrev pub From : ℕ → List Direct → Type 0
From v [] = Unit {0}
From v (l ∷ ls) = (v ≤ l.senior) × From v ls

-- each line goes down, from a value below n, and the upper values do not fall: what reading ensures of usen and osen
-- lines
abbrev pub Ordered : ℕ → List Direct → Type 0
Ordered n [] = Unit {0}
Ordered n (l ∷ ls) = (l.junior < l.senior) × (l.senior < n) × From l.senior ls × Ordered n ls

-- s, with b where it holds a
abbrev pub extended : ℕ → ℕ → ℕ → ℕ
extended s a b = cond (has s a) (union s (2 ^ b)) s
