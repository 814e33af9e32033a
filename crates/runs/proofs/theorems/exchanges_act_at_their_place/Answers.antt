use Rattle.runs.proofs.Places.{at_a_place}
use Rattle.runs.proofs.theorems.exchanges_act_at_their_place.Goals as goal

pub returns : goal.returns
returns g c = at_a_place (g.M.ExchangeMap.meaning c.args.map.now)
