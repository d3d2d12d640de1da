-- Blocks of pairs of sets that the evaluator is lent.
use Rattle.std.specs.Prelude.{ℕ}
use Rattle.policy.specs.Policy.{Policy}
use Rattle.formula.specs.Truth.{Sets}
use Rattle.formula.specs.Inner.Lane.{AttributesOf, InBlock}
use Rattle.formula.specs.declared.both.Blocks.{Blocks}

-- lane k of block b stands for these sets of the policy
abbrev pub SetsAt : Policy → Blocks → ℕ → ℕ → Sets → Type 0
SetsAt p x b k s = InBlock p x.users.now x.objects.now x.count b k s

-- and the policy's attributes lie where the blocks say
abbrev pub AtLane : Policy → Blocks → ℕ → ℕ → Sets → Type 0
AtLane p x b k s = AttributesOf p x.sides × SetsAt p x b k s
