use Rattle.std.proofs.Common.{drop}
use Rattle.rowfile.proofs.Laid.{Left}
use Rattle.rowfile.proofs.writer.Sink.bytes.Given as goal

abbrev pub invariant-loop-byte : goal.invariant-loop-byte
invariant-loop-byte l = Left (record { out = l.self.out; at = l.at }) (drop l.byte-index l.bytes) l.initial.self l.bytes
