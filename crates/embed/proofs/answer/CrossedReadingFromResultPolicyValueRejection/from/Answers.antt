-- What reading answers crosses as its outcome does.
use Rattle.embed.proofs.Answers.{as_accepted, as_refused}
use Rattle.embed.proofs.answer.CrossedReadingFromResultPolicyValueRejection.from.Goals as goal

pub returns-in-Ok : goal.returns-in-Ok
returns-in-Ok c o R = as_accepted _ o (rw c.in-Ok.is at R)

pub returns-in-Err : goal.returns-in-Err
returns-in-Err c o R = rw (c.from.ensures, c.blank.ensures) (as_refused _ o (rw c.in-Err.is at R))
