use Rattle.runs.proofs.Sweeps.{in_turn}
use Rattle.runs.proofs.theorems.sweeps_go_in_turn.Goals as goal

pub returns : goal.returns
returns g c = in_turn (g.M.ExchangeMap.meaning c.args.map.now)
