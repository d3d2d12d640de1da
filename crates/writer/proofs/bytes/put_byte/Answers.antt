-- `writer::bytes::put_byte` meets its contract.
use Rattle.writer.proofs.Putting.{put_byte}
use Rattle.writer.proofs.bytes.put_byte.Goals as goal

pub returns : goal.returns
returns c = search put_byte
