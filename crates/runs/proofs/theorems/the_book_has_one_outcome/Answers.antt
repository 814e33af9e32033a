use Rattle.runs.proofs.Outcomes.{one_outcome}
use Rattle.runs.proofs.theorems.the_book_has_one_outcome.Goals as goal

pub returns : goal.returns
returns g c = one_outcome (g.M.ExchangeMap.meaning c.args.map.now)
