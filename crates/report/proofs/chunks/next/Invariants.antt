-- `report::chunks::next` meets its contract: what was handed out and what is left at c make the whole, and each step lessens
-- what remains.
use Prim.Native.Nat.{◌≤◌, ◌<◌}
use Rattle.policy.specs.Policy.{Policy}
use Rattle.report.specs.Inner.Cursor.{Standing, Handed, up_to, remaining}
use Rattle.report.proofs.chunks.next.Given as goal

abbrev pub invariant-loop-count : goal.invariant-loop-count
invariant-loop-count l =
    ((p : Policy) → Standing p l.initial.next → Handed p l.initial.next l.initial.buffer l.buffer (up_to l.count l.next))
    × ((p : Policy) × Standing p l.initial.next)
    × (remaining l.next ≤ remaining l.initial.next)
    × (0 < l.count → remaining l.next < remaining l.initial.next)

abbrev pub decreases-loop-count : goal.decreases-loop-count
decreases-loop-count l = remaining l.next
