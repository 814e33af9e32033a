use Rattle.runs.proofs.Deeds.{one_deed}
use Rattle.runs.proofs.theorems.a_call_does_one_thing.Goals as goal

pub returns : goal.returns
returns g c = one_deed (g.M.ExchangeMap.meaning c.args.map.now)
