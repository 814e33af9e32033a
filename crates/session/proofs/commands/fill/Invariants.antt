use Rattle.session.proofs.Filling.{Filled}
use Rattle.session.proofs.commands.fill.Given as goal

abbrev pub invariant-loop-code : goal.invariant-loop-code
invariant-loop-code g l = Filled (g.M.ExchangeMap.meaning l.map) l.codes l.code-index l.initial.row l.bench l.row
