-- `reader::cursor::end_of` meets its contract.
use mathlib.Core.Path.{◌≡◌, sym, ap, ◌∙◌}
use mathlib.Core.Bool.{Bool, true, false, not}
use Rattle.reader.proofs.Cursors.{end-test, end-there, ends, ends-early}
use Rattle.reader.proofs.cursor.end_of.Goals as goal

not-is : (a b : Bool) → a ≡ not b → (c : Bool) → a ≡ c → b ≡ not c
not-is a true e c f = ap not (sym e ∙ f)
not-is a false e c f = ap not (sym e ∙ f)

pub returns-then-ne : goal.returns-then-ne
returns-then-ne c = ends-early _ _ c.args.n c.args.before c.requires (sym (end-test c.args.before) ∙ not-is _ _ c.ne.ensures true c.if-ne.true)

pub returns : goal.returns
returns c = ends _ _ c.args.n c.args.before c.requires (end-there c.args.before (sym (end-test c.args.before) ∙ not-is _ _ c.ne.ensures false c.if-ne.false)) _
