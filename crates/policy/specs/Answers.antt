-- What the answers of the code stand for: the document's number of each refusal, and its values.
use Rattle.std.specs.Prelude.{ℕ, ◌≡◌, Bool, cond, Option, None, Some, Result, Ok, Err, IsErrAnd}
use Rattle.policy.specs.Policy.{blank}
use Rattle.policy.specs.Read.{Outcome, Accepted, Refused}
use Rattle.policy.specs.Value.{value_of}
use Rattle.policy.specs.declared.value.PolicyValue.{PolicyValue}
use Rattle.policy.specs.declared.refusal.Refusal.{Refusal}
use Rattle.policy.specs.declared.value.Rejection.{Rejection}
use Rattle.policy.specs.declared.refusal.Refusal.TheVariants.{TextTooLong, LineFeedMissing, KindNotAllowed, WrongFieldCount, MalformedField, OutOfRange, NotRising, UnequalWidths, UnbalancedFormula, EndMissing, InvalidState, UnknownAction, UnknownSession, UnregisteredUser, UnregisteredObject, SessionOpen, SessionNotOpen, SessionOfAnother, SetOutOfReach, BufferTooShort, TooManyPairs, TooManyConflicts, TooManyHeld}

abbrev pub number_of : Refusal → ℕ
number_of TextTooLong = 1
number_of LineFeedMissing = 2
number_of KindNotAllowed = 3
number_of WrongFieldCount = 4
number_of MalformedField = 5
number_of OutOfRange = 6
number_of NotRising = 7
number_of UnequalWidths = 8
number_of UnbalancedFormula = 9
number_of EndMissing = 10
number_of InvalidState = 11
number_of UnknownAction = 12
number_of UnknownSession = 13
number_of UnregisteredUser = 14
number_of UnregisteredObject = 15
number_of SessionOpen = 16
number_of SessionNotOpen = 17
number_of SessionOfAnother = 18
number_of SetOutOfReach = 19
number_of BufferTooShort = 20
number_of TooManyPairs = 21
number_of TooManyConflicts = 22
number_of TooManyHeld = 23

-- what a call's answer stands for: what it gives, or the number of its refusal
abbrev pub answer_of : {A : Type 0} → Result A Refusal → Result A ℕ
answer_of (Ok a) = Ok a
answer_of (Err r) = Err (number_of r)

-- granted, denied or refused, and done for a session call that is no request
pub data Reply : Type 0 where
  done : Reply
  granted : Reply
  denied : Reply
  refused : ℕ → Reply

abbrev pub decided : Bool → Reply
decided b = cond b granted denied

-- a reply as a number: 0 denied, 1 granted, 2 done, or the refusal
abbrev pub reply_number : Reply → ℕ
reply_number denied = 0
reply_number granted = 1
reply_number done = 2
reply_number (refused n) = n

-- ---- reading

-- the refusal that an outcome is, with its line
abbrev pub refusal_in : Outcome → Option (ℕ × ℕ)
refusal_in (Accepted p) = None
refusal_in (Refused n l) = Some (n, l)

-- "A refused read yields no policy": the blank value crosses to C beside a refusal
unfoldable pub value_in : Outcome → PolicyValue
value_in (Accepted p) = value_of p
value_in (Refused n l) = value_of blank

-- the answer to a text is its outcome: the value of its policy, or the refusal's number and its line
abbrev pub ReadAs : Outcome → Result PolicyValue Rejection → Type 0
ReadAs (Accepted p) r = r ≡ Ok (value_of p)
ReadAs (Refused n l) r = IsErrAnd r (λ e. (number_of e.refusal ≡ n) × (e.line ≡ l))
