-- `board::asking::judge` meets its contract: one law for each way out.
use Rattle.board.proofs.Ways.{request_unknown, request_nowhere, request_unregistered, request_open, request_closed}
use Rattle.board.proofs.asking.judge.Goals as goal

pub returns-then-actions-action : goal.returns-then-actions-action
returns-then-actions-action c = search request_unknown

pub returns-then-session-ge-SESSION_NUMBERS : goal.returns-then-session-ge-SESSION_NUMBERS
returns-then-session-ge-SESSION_NUMBERS c = search request_nowhere

pub returns-in_default : goal.returns-in_default
returns-in_default c = search request_unregistered

pub returns-then-entry-eq0 : goal.returns-then-entry-eq0
returns-then-entry-eq0 c = search request_closed

pub returns : goal.returns
returns c = search request_open
