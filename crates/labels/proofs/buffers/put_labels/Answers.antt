-- `labels::buffers::put_labels` meets its contract, by the laws of putting.
use Rattle.labels.proofs.Putting.{putting_all}
use Rattle.labels.proofs.buffers.put_labels.Goals as goal

pub returns : goal.returns
returns g c = putting_all c.loop-u.invariant c.loop-u-test.false
