use Rattle.runs.proofs.Runs.{promise}
use Rattle.runs.proofs.theorems.the_promise_of_runs.Goals as goal

pub returns : goal.returns
returns g c filled = promise (g.met.M.ExchangeMap.lawful c.args.map.now) filled
