-- `formula::both::Blocks::put_by_rules` meets its contract: the numbers say what the rules gone through say.
use Prim.Native.Nat.{ℕ, ◌<◌}
use mathlib.Core.Path.{◌≡◌}
use lib.ListN.{length, take}
use mathlib.Core.List.{List, ◌++◌}
use Rattle.policy.specs.declared.value.RuleValue.{RuleValue}
use Rattle.policy.specs.Policy.{Policy}
use Rattle.formula.specs.Truth.{Sets}
use Rattle.formula.specs.Inner.Blocks.{AtLane}
use Rattle.formula.specs.Inner.Lane.{in_block}
use Rattle.formula.proofs.Granting.{Says}
use Rattle.formula.proofs.both.Blocks.put_by_rules.Given as goal

abbrev pub invariant-loop-rule : goal.invariant-loop-rule
invariant-loop-rule l =
    (done : List RuleValue) × (take l.fn.rules.count l.fn.rules.entries ≡ l.rule-iterator.iter.rest.now ++ done)
    × (length l.stack ≡ length l.initial.stack) × (length l.granted ≡ length l.initial.granted)
    × ((b : ℕ) → b < l.self.count → (p : Policy) (k : ℕ) (s : Sets) → AtLane p l.self b k s
    → Says p s done (in_block l.granted l.self.count b) k)
