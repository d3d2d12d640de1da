-- `report::listed::of_grants` meets its contract: those below a that have a rule or a pair are stored.
use Prim.Native.Nat.{◌-◌, ◌≤◌}
use mathlib.Core.Path.{◌≡◌}
use lib.ListN.{length}
use Rattle.policy.specs.Limits.{most_actions}
use Rattle.policy.specs.Policy.{Policy, named}
use Rattle.formula.specs.Inner.Grant.{GrantsOf}
use Rattle.tuples.specs.Inner.Marks.{Stored}
use Rattle.report.proofs.listed.of_grants.Given as goal

abbrev pub invariant-loop-a : goal.invariant-loop-a
invariant-loop-a l =
    (l.a ≤ l.n) × (length l.initial.actions ≡ most_actions) × ((p : Policy) → GrantsOf p l.grants → Stored (named p) l.a l.initial.actions l.count l.actions)

abbrev pub decreases-loop-a : goal.decreases-loop-a
decreases-loop-a l = l.n - l.a
