use Rattle.std.proofs.Common.{◌≡◌}
use Rattle.runs.specs.Sweeps.{taken}
use Rattle.bench.proofs.Walks.{below}
use Rattle.bench.proofs.walk.unsweep_row.Given as goal

abbrev pub invariant-loop-i : goal.invariant-loop-i
invariant-loop-i g l = let m = g.M.ExchangeMap.meaning l.map in below m l.i l.row l.moving ≡ taken m l.initial.row l.initial.moving
