use Rattle.runs.proofs.Reordering.{reordering}
use Rattle.runs.proofs.theorems.reordering_changes_nothing.Goals as goal

pub returns : goal.returns
returns g c = reordering (g.met.M.ExchangeMap.lawful c.args.map.now)
