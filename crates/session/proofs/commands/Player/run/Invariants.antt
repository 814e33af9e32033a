use Rattle.std.proofs.Common.{◌≡◌, string_bytes}
use Rattle.bench.specs.Bench.{held}
use Rattle.session.proofs.Running.{Midway}
use Rattle.session.proofs.commands.Player.run.Given as goal

abbrev pub invariant-loop-command : goal.invariant-loop-command
invariant-loop-command g l =
    (l.self.map ≡ l.initial.self.map)
    × Midway (g.M.ExchangeMap.meaning l.initial.self.map.now) g.R.Permission.allowed l.commands l.command-index
    (held l.initial.self.bench l.initial.self.row.items l.initial.self.halves) (string_bytes l.initial.out)
    (held l.self.bench l.self.row.items l.self.halves) (string_bytes l.out)
