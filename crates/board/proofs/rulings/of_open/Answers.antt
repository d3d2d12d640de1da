-- `board::rulings::of_open` meets its contract: one law for each way out.
use Rattle.board.proofs.Ways.{open_unknown, open_unregistered, open_open, open_set}
use Rattle.board.proofs.rulings.of_open.Goals as goal

pub returns-then-session-ge-SESSION_NUMBERS : goal.returns-then-session-ge-SESSION_NUMBERS
returns-then-session-ge-SESSION_NUMBERS c p u h q = search open_unknown

pub returns-in_default : goal.returns-in_default
returns-in_default c p u h q = search open_unregistered

pub returns-then-entry-ne0 : goal.returns-then-entry-ne0
returns-then-entry-ne0 c p u h q = search open_open

pub returns : goal.returns
returns c p u h q = search open_set
