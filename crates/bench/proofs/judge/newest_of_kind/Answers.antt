use Rattle.std.proofs.Common.{rules}
use Rattle.bench.proofs.Reading.{newest_from_reads}
use Rattle.bench.proofs.judge.newest_of_kind.Goals as goal

pub returns : goal.returns
returns g c = newest_from_reads (g.M.ExchangeMap.meaning c.args.map.now) c.args.kind c.args.carriers.now c.rposition.result (λ j e h. search rules) (λ i e. search rules) (λ i e. search rules) (λ i j e h l. search rules)
