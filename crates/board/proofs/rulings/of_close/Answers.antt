-- `board::rulings::of_close` meets its contract: one law for each way out.
use Rattle.board.proofs.Ways.{close_unknown, close_unregistered, close_closed, close_other, close_allowed}
use Rattle.board.proofs.rulings.of_close.Goals as goal

pub returns-then-session-ge-SESSION_NUMBERS : goal.returns-then-session-ge-SESSION_NUMBERS
returns-then-session-ge-SESSION_NUMBERS c = search close_unknown

pub returns-then-not-registered : goal.returns-then-not-registered
returns-then-not-registered c = search close_unregistered

pub returns-then-entry-eq0 : goal.returns-then-entry-eq0
returns-then-entry-eq0 c = search close_closed

pub returns-then-entry-user : goal.returns-then-entry-user
returns-then-entry-user c = search close_other

pub returns : goal.returns
returns c = search close_allowed
