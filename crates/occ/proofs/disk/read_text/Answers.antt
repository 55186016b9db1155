use Rattle.occ.proofs.Reading.{front_read}
use Rattle.occ.proofs.disk.read_text.Goals as goal

pub returns : goal.returns
returns g c = front_read g.R.Read.remaining c.take.result c.args.reader 262145 c.read_to_end.new.buf.items c.new-bytes.result.items c.new-bytes.ensures.items c.take.ensures.limit c.take.ensures.inner c.in_ok-read_to_end.ensures.bytes
