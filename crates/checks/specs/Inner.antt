-- The shapes of the sides, as the code hands them to the checks of a line, and a step of check 9.
use Rattle.std.specs.Prelude.{ℕ, ◌+◌, ◌-◌, cond, leb, take, Option, None, Some}
use Rattle.words.specs.declared.Word.{Word}
use Rattle.policy.specs.Checks.{SideSizes, Sizes, takes}
use Rattle.checks.specs.declared.shape.Shape.{Shape}
use Rattle.checks.specs.declared.shape.Shapes.{Shapes}

-- the sizes that a shape says
abbrev pub sizes_in : Shape → SideSizes
sizes_in x = record { values = x.total; attributes = x.attributes; widths = take x.attributes x.widths }

abbrev pub both_in : Shapes → Sizes
both_in x = record { user = sizes_in x.user; object = sizes_in x.object }

-- how many truth values are on a stack of d after a word; none where the word finds too few
abbrev pub after : ℕ → Word → Option ℕ
after d w = cond (leb (takes w) d) (Some (d - takes w + 1)) None
