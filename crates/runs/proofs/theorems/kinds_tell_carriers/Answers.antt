use Rattle.runs.proofs.Insertion.{kinds_tell}
use Rattle.runs.proofs.theorems.kinds_tell_carriers.Goals as goal

pub returns : goal.returns
returns g c = kinds_tell (g.met.M.ExchangeMap.lawful c.args.map.now)
