-- `reader::conflicts::read` meets its contract: there is room up to the limit.
use Rattle.std.specs.Prelude.{length, ltb}
use Rattle.policy.specs.Limits.{most_conflicts}
use Rattle.policy.specs.declared.refusal.Refusal.TheVariants.{TooManyConflicts}
use Rattle.reader.specs.Inner.Lists.{room_by}
use Rattle.reader.proofs.conflicts.read.Given as goal

abbrev pub ghost-read : goal.ghost-read
ghost-read a = λ xs. room_by (ltb (length xs) most_conflicts) TooManyConflicts
