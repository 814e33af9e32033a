use Rattle.std.proofs.Common.{map, drop, decimal}
use Rattle.rowfile.specs.Lines.{led}
use Rattle.rowfile.proofs.Laid.{Left}
use Rattle.rowfile.proofs.writer.Sink.numbers.Given as goal

abbrev pub invariant-loop-n : goal.invariant-loop-n
invariant-loop-n l = Left l.self (led 9 (map decimal (drop l.n-index l.numbers))) l.initial.self (led 9 (map decimal l.numbers))
