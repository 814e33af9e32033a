use Rattle.rowfile.proofs.Laid.{appends_then}
use Rattle.rowfile.proofs.writer.Sink.line.Goals as goal

pub returns : goal.returns
returns c = appends_then (appends_then c.bytes.ensures c.numbers.ensures) c.bytes-2.ensures
