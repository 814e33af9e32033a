use Rattle.runs.proofs.Places.{raising}
use Rattle.runs.proofs.theorems.raises_take_the_newest.Goals as goal

pub returns : goal.returns
returns g c = raising (g.met.M.ExchangeMap.lawful c.args.map.now)
