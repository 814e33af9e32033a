use Rattle.runs.proofs.Granting.{granting}
use Rattle.runs.proofs.theorems.calls_are_granted_when_all_is_found.Goals as goal

pub returns : goal.returns
returns g c = granting (g.M.ExchangeMap.meaning c.args.map.now)
