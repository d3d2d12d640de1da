-- `lister::list` meets its contract: a chunk that is not empty lessens what remains of the report.
use Prim.Native.Nat.{ℕ}
use mathlib.Core.List.{List}
use Rattle.report.specs.Inner.Cursor.{Left, remaining}
use Rattle.lister.proofs.list.Given as goal

abbrev pub invariant-loop-buffer : goal.invariant-loop-buffer
invariant-loop-buffer g l = (left : List ℕ) × Left l.cursor left

abbrev pub decreases-loop-buffer : goal.decreases-loop-buffer
decreases-loop-buffer g l = remaining l.cursor
