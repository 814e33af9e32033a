use Rattle.std.proofs.Common.{rules}
use Rattle.runs.specs.Exchanges.{back}
use Rattle.bench.proofs.bench.Running.exchange_back.Goals as goal

pub returns-clause-does : goal.returns-clause-does
returns-clause-does g c = c.exchange_by.ensures.does back (λ l r p k. search rules)
