-- `reader::cursor::Cursor::next` meets its contract: the line at the cursor ends inside the text.
use native.Mathlib.Omega.{arith}
use Rattle.std.proofs.lemmas.Result.{MatchResult-weaker}
use Rattle.reader.proofs.Cursors.{next-looked}
use Rattle.reader.proofs.cursor.Cursor.next.Goals as goal

pub overflow_add-self : goal.overflow_add-self
overflow_add-self c = let l = c.requires.0 _ c.requires.1 in omega (arith, l.inside)

pub overflow_add-self-2 : goal.overflow_add-self-2
overflow_add-self-2 c = let l = c.requires.0 _ c.requires.1 in omega (arith, l.few, l.from, l.inside)

pub look-requires : goal.look-requires
look-requires c = let l = c.requires.0 _ c.requires.1 in (omega (arith, l.inside), omega (arith, l.few, l.from))

pub returns : goal.returns
returns c = MatchResult-weaker c.look.result c.look.ensures (λ d l. next-looked _ c.args.self c.args.k d l) (λ e l. l)
