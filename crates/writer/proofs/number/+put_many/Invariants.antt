-- `writer::number::put_many` ends: a number without its last digit is smaller.
use Rattle.writer.proofs.number.+put_many.Given as goal

abbrev pub decreases-put_many : goal.decreases-put_many
decreases-put_many l = l.n
