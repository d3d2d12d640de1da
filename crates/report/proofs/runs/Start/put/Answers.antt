-- `report::runs::Start::put` meets its contract: the two copies make the start.
use Rattle.report.proofs.Pieces.{eight_room, last-room, copies_put}
use mathlib.Core.Path.{sym}
use native.Mathlib.Omega.{arith}
use lib.Seq.{length-take-le}
use Rattle.report.proofs.runs.Start.put.Goals as goal

pub slice_bounds-put-end : goal.slice_bounds-put-end
slice_bounds-put-end c = sym (length-take-le c.args.self.now.count c.args.self.now.text (omega (arith, c.args.self.now.most, c.args.self.now.long)))

pub slice_bounds-put-end-2 : goal.slice_bounds-put-end-2
slice_bounds-put-end-2 c = sym (length-take-le 8 c.args.self.now.text (omega (arith, c.args.self.now.least, c.args.self.now.most, c.args.self.now.long)))

pub put-requires-2 : goal.put-requires-2
put-requires-2 c = let h = c.args.self.now in eight_room h.text h.count h.least (omega (arith, h.most, h.long)) c.requires

pub put-requires-3 : goal.put-requires-3
put-requires-3 c = let h = c.args.self.now in last-room h.text h.count h.least (omega (arith, h.most, h.long)) c.requires c.put-2.ensures

pub returns : goal.returns
returns c =
    let h = c.args.self.now in
    copies_put h.text h.count h.least (omega (arith, h.most, h.long)) c.requires c.put-2.ensures (omega (arith, c.if-count-gt16.false)) c.put-3.ensures
