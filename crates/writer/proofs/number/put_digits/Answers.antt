-- `writer::number::put_digits` meets its contract: its digits are put from the first one on.
use Rattle.writer.proofs.Digits.{one-room, one-put, two-room, two-next, two-put, three-room, three-second, three_third, three-put}
use borrow.Author.Rules.{rules}
use Rattle.writer.proofs.number.put_digits.Goals as goal

pub put_last-requires : goal.put_last-requires
put_last-requires c = search (rules, one-room)

pub returns-then-n-lt10 : goal.returns-then-n-lt10
returns-then-n-lt10 c = search (rules, one-put)

pub put_last-second-requires : goal.put_last-second-requires
put_last-second-requires c = search (rules, two-room)

pub put_last-requires-then-n-lt100 : goal.put_last-requires-then-n-lt100
put_last-requires-then-n-lt100 c = search (rules, two-next)

pub returns-then-n-lt100 : goal.returns-then-n-lt100
returns-then-n-lt100 c = search (rules, two-put)

pub put_last-second-requires-then-n-lt1000 : goal.put_last-second-requires-then-n-lt1000
put_last-second-requires-then-n-lt1000 c = search (rules, three-room)

pub put_last-third-requires : goal.put_last-third-requires
put_last-third-requires c = search (rules, three-second)

pub put_last-requires-then-n-lt1000 : goal.put_last-requires-then-n-lt1000
put_last-requires-then-n-lt1000 c = search (rules, three_third)

pub returns-then-n-lt1000 : goal.returns-then-n-lt1000
returns-then-n-lt1000 c = search (rules, three-put)
