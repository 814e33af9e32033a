use Rattle.std.proofs.Common.{◌≡◌}
use Rattle.bench.specs.Log.{Lent}
use Rattle.bench.proofs.Climbing.{Rising}
use Rattle.bench.proofs.calls.climb_entries.Given as goal

abbrev pub invariant-loop-i : goal.invariant-loop-i
invariant-loop-i g l =
    let m = g.M.ExchangeMap.meaning l.map in
    let n = l.initial.log.count in
    Lent l.initial.log l.log
    × (l.log.count ≡ n)
    × Rising m n l.place l.i l.initial.log.incoming.now l.log.incoming.now
    × Rising m n l.place l.i l.initial.log.outgoing.now l.log.outgoing.now
