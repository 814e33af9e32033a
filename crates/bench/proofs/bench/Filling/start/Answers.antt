use Rattle.runs.proofs.Runs.{promise}
use Rattle.bench.proofs.bench.Filling.start.Goals as goal

pub returns-clause-runs : goal.returns-clause-runs
returns-clause-runs g c = λ filled. promise (g.met.M.ExchangeMap.lawful c.args._map.now) filled
