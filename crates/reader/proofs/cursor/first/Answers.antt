-- `reader::cursor::first` meets its contract: line 0 is looked at.
use Rattle.std.proofs.lemmas.Result.{MatchResult-weaker}
use Rattle.reader.proofs.Cursors.{first-looked, first-refused}
use Rattle.reader.proofs.cursor.first.Goals as goal

pub returns : goal.returns
returns c = MatchResult-weaker c.look.result c.look.ensures (first-looked _ c.requires) (first-refused _ c.requires)
