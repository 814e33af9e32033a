use Rattle.rowfile.proofs.writer.Sink.+number.Given as goal

abbrev pub decreases-number : goal.decreases-number
decreases-number l = l.n
