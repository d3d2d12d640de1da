-- `checks::shape::Shapes::words_sound` meets its contract: the words before place i pass checks 6 and 8 and leave `depth`
-- truth values.
use Rattle.checks.specs.Inner.{both_in}
use Rattle.checks.proofs.Words.{Walked, sound}
use Rattle.checks.proofs.shape.Shapes.words_sound.Given as goal

abbrev pub invariant-loop-n : goal.invariant-loop-n
invariant-loop-n l = Walked (sound (both_in l.self)) l.words l.depth l.n-index
