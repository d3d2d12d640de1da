-- What remains at a cursor falls with each step.
use Prim.Native.Nat.{ℕ, ◌+◌, ◌-◌, ◌*◌, ◌≤◌, ◌<◌}
use mathlib.Core.Path.{◌≡◌}
use mathlib.Core.List.{List}
use native.Mathlib.Omega.{arith}
use Rattle.policy.specs.Limits.{most_tuples}
use Rattle.formula.specs.Inner.Lane.{lanes}
use Rattle.tuples.specs.Inner.Blocks.{most_blocks}
use Rattle.tuples.specs.declared.marks.Marks.{Marks}
use Rattle.report.specs.Inner.Lines.{line_room}
use Rattle.report.specs.Inner.Cursor.{marks_end, remaining}
use Rattle.report.specs.declared.cursor.Cursor.{Cursor}
use Rattle.report.proofs.Left.{holding, listing, onward, begun, held_in}

-- other bytes held, and the rest as it was
fewer : (n held made rest all : ℕ) → held + made + rest + line_room < all → n ≤ line_room → (n - 0) + made + rest < all
fewer n held made rest all h l = omega arith

-- an action less to work out, whatever its line and its tuples
begun-less : (n end made count done held left numbers : ℕ) → n ≤ line_room → end ≤ most_blocks → done < count
    → (n - 0) + (end - (0 + made)) + (line_room + 1) * ((end * lanes - 0) + (1 + most_blocks + most_tuples) * (count - (done + 1)))
    < held + left + (line_room + 1) * (numbers + (1 + most_blocks + most_tuples) * (count - done))
begun-less n end made count done held left numbers l b h = omega arith

module _ (c : Cursor) where
  pub held-falls : (k : ℕ) → 0 < k → k ≤ c.held.to - c.held.from
      → remaining (holding c (record { from = c.held.from + k; to = c.held.to; bytes = c.held.bytes })) < remaining c
  unfolding remaining
  held-falls k h l = omega arith

  pub tuples-fall : (next : ℕ) → c.tuples.first + c.tuples.marks.count ≤ c.tuples.end → c.tuples.from < next → next ≤ marks_end c.tuples
      → remaining (listing c next) + line_room < remaining c
  unfolding remaining
  tuples-fall next i h l = omega arith

  pub strip-falls : (m : Marks) → c.tuples.from ≡ marks_end c.tuples → c.tuples.first + c.tuples.marks.count < c.tuples.end → 0 < m.count
      → remaining (onward c m) < remaining c
  unfolding remaining
  strip-falls m h i l =
      let e : (c.tuples.first + c.tuples.marks.count) * lanes + 0 ≡ c.tuples.first * lanes + c.tuples.from = omega (arith, h) in
      rw e (omega arith)

  pub holding-falls : (d : Cursor) (n : ℕ) (bytes : List ℕ) → remaining d + line_room < remaining c → n ≤ line_room → remaining (holding d (held_in bytes n)) < remaining c
  unfolding remaining
  holding-falls d n bytes h l = fewer n (d.held.to - d.held.from) _ _ _ h l

  pub action-falls : (a : ℕ) (m : Marks) (n : ℕ) (bytes : List ℕ) → c.done < c.listed.count → c.tuples.end ≤ most_blocks → n ≤ line_room
      → remaining (begun c a m (held_in bytes n)) < remaining c
  unfolding remaining
  action-falls a m n bytes h b l = begun-less n c.tuples.end m.count c.listed.count c.done _ _ _ l b h
