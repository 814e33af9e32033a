use Rattle.std.proofs.Common.{arith}
use Rattle.bench.proofs.Judging.{not_reaching}
use Rattle.bench.proofs.bench.Running.judge_memory.Goals as goal

pub returns-else-row-self-clause-judged : goal.returns-else-row-self-clause-judged
returns-else-row-self-clause-judged g c m call = not_reaching m _ call (λ r. grind arith)
