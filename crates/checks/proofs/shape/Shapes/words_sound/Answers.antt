-- `checks::shape::Shapes::words_sound` meets its contract: the words before place i pass checks 6 and 8 and leave `depth`
-- truth values.
use Rattle.checks.proofs.Words.{sound-walk, walked_none, walked_all, walked-not, walked-stuck, walked-more}
use Rattle.checks.proofs.shape.Shapes.words_sound.Goals as goal

pub loop-n-init : goal.loop-n-init
loop-n-init c = walked_none

pub returns-then-not-word_sound : goal.returns-then-not-word_sound
returns-then-not-word_sound c =
    walked-not (sound-walk _) c.loop-n.invariant c.loop-n-test.true c.from-word.ensures
    c.word_sound.ensures c.if-not-word_sound.true

pub returns-in_default : goal.returns-in_default
returns-in_default c =
    walked-stuck (sound-walk _) c.loop-n.invariant c.loop-n-test.true c.from-word.ensures c.after.ensures c.in_default.is

pub loop-n-preserved : goal.loop-n-preserved
loop-n-preserved c =
    walked-more (sound-walk _) c.loop-n.invariant c.loop-n-test.true c.from-word.ensures c.after.ensures
    c.word_sound.ensures c.if-not-word_sound.false c.in-Some.is

pub returns : goal.returns
returns c = walked_all (sound-walk _) c.loop-n.invariant c.loop-n-test.false
