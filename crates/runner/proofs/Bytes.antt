-- An answer's number is a byte.
use Rattle.std.specs.Prelude.{Result, Ok, Err}
use Prim.Native.Nat.{◌<◌}
use lib.Dec.{lit<}
use Rattle.policy.specs.Answers.{number_of, reply_number}
use Rattle.policy.specs.declared.refusal.Refusal.{Refusal}
use Rattle.policy.specs.declared.refusal.Refusal.TheVariants.{TextTooLong, LineFeedMissing, KindNotAllowed, WrongFieldCount, MalformedField, OutOfRange, NotRising, UnequalWidths, UnbalancedFormula, EndMissing, InvalidState, UnknownAction, UnknownSession, UnregisteredUser, UnregisteredObject, SessionOpen, SessionNotOpen, SessionOfAnother, SetOutOfReach, BufferTooShort, TooManyPairs, TooManyConflicts, TooManyHeld}
use Rattle.board.specs.Board.{reply_of}
use Rattle.board.specs.declared.Reply.{Reply}
use Rattle.board.specs.declared.Reply.TheVariants.{Denied, Granted, Done}

number-byte : (r : Refusal) → number_of r < 256
number-byte TextTooLong = lit< tt
number-byte LineFeedMissing = lit< tt
number-byte KindNotAllowed = lit< tt
number-byte WrongFieldCount = lit< tt
number-byte MalformedField = lit< tt
number-byte OutOfRange = lit< tt
number-byte NotRising = lit< tt
number-byte UnequalWidths = lit< tt
number-byte UnbalancedFormula = lit< tt
number-byte EndMissing = lit< tt
number-byte InvalidState = lit< tt
number-byte UnknownAction = lit< tt
number-byte UnknownSession = lit< tt
number-byte UnregisteredUser = lit< tt
number-byte UnregisteredObject = lit< tt
number-byte SessionOpen = lit< tt
number-byte SessionNotOpen = lit< tt
number-byte SessionOfAnother = lit< tt
number-byte SetOutOfReach = lit< tt
number-byte BufferTooShort = lit< tt
number-byte TooManyPairs = lit< tt
number-byte TooManyConflicts = lit< tt
number-byte TooManyHeld = lit< tt

pub reply-byte : (a : Result Reply Refusal) → reply_number (reply_of a) < 256
reply-byte (Ok Denied) = lit< tt
reply-byte (Ok Granted) = lit< tt
reply-byte (Ok Done) = lit< tt
reply-byte (Err r) = number-byte r
