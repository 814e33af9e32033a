use Rattle.runs.proofs.Sweeps.{undo}
use Rattle.runs.proofs.theorems.sweeps_are_undone.Goals as goal

pub returns : goal.returns
returns g c = undo (g.met.M.ExchangeMap.lawful c.args.map.now)
