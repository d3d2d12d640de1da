-- `formula::both::Blocks::put_passing` meets its contract: the place says where the first q places of the attributes pass.
use Prim.Native.Nat.{ℕ, ◌+◌}
use mathlib.Core.Path.{◌≡◌}
use Rattle.basis.specs.Numbers.{every}
use Rattle.sets.specs.Set.{has}
use Rattle.seniority.specs.Seniority.{held_or_senior}
use Rattle.policy.specs.Policy.{Policy}
use Rattle.formula.specs.Truth.{Sets}
use Rattle.formula.specs.Inner.Blocks.{SetsAt}
use Rattle.formula.specs.Inner.Lane.{Placed, held_as, passes}
use Rattle.formula.proofs.both.Blocks.put_passing.Given as goal

abbrev pub invariant-loop-q : goal.invariant-loop-q
invariant-loop-q l =
    Placed l.self.count l.to (λ b y. (p : Policy) (k : ℕ) (s : Sets) → SetsAt p l.self b k s → has y k ≡ every (λ m. passes l.exact (has s.object (l.c + m)) (held_as l.exact (held_or_senior p.user.lines) s.user (l.a + m))) l.q) l.initial.stack l.stack
