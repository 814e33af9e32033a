use Rattle.std.proofs.Common.{◌≡◌}
use Rattle.runs.specs.Sweeps.{swept}
use Rattle.bench.proofs.Walks.{from}
use Rattle.bench.proofs.walk.sweep_row.Given as goal

abbrev pub invariant-loop-place : goal.invariant-loop-place
invariant-loop-place g l = let m = g.M.ExchangeMap.meaning l.map in from m l.place-index l.moving l.row ≡ swept m l.initial.moving l.initial.row
