-- Actions in groups: an entry is worked out by groups of so many.
use Rattle.std.specs.Prelude.{ℕ, cond, leb}
use Rattle.policy.specs.Limits.{most_actions}

abbrev pub group_size : ℕ
group_size = 8

-- how many actions the groups have that have the first n actions
unfoldable pub grouped : ℕ → ℕ
grouped n = cond (leb n group_size) group_size most_actions
