-- `labels::buffers::put_labels` meets its contract, by the laws of putting.
use Rattle.std.proofs.Common.{length, map}
use Rattle.labels.proofs.Putting.{Putting}
use Rattle.labels.proofs.buffers.put_labels.Given as goal

abbrev pub invariant-loop-u : goal.invariant-loop-u
invariant-loop-u g l =
    Putting l.labels (length l.labels) l.u (map g.L.Stored.number l.initial.buffer) (map g.L.Stored.number l.buffer)
