use Rattle.std.proofs.Common.{[], ◌∷◌, arith}
use Rattle.rowfile.proofs.Bounds.{numbers_short}
use Rattle.rowfile.proofs.writer.Sink.command.Goals as goal

pub line-requires : goal.line-requires
line-requires c = omega (arith, numbers_short (c.in-Sweep.code ∷ []) (omega arith, tt))

pub line-requires-in-Exchange : goal.line-requires-in-Exchange
line-requires-in-Exchange c = omega (arith, numbers_short (c.in-Exchange.place ∷ []) (omega arith, tt))

pub line-requires-in-ExchangeBack : goal.line-requires-in-ExchangeBack
line-requires-in-ExchangeBack c = omega (arith, numbers_short (c.in-ExchangeBack.place ∷ []) (omega arith, tt))

pub line-requires-in-Raise : goal.line-requires-in-Raise
line-requires-in-Raise c = omega (arith, numbers_short (c.in-Raise.kind ∷ []) (omega arith, tt))
