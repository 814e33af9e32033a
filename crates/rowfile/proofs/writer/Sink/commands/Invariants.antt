use Rattle.std.proofs.Common.{drop}
use Rattle.rowfile.specs.Writing.{commands_text}
use Rattle.rowfile.proofs.Laid.{Left}
use Rattle.rowfile.proofs.writer.Sink.commands.Given as goal

abbrev pub invariant-loop-command : goal.invariant-loop-command
invariant-loop-command l = Left l.self (commands_text (drop l.command-index l.commands)) l.initial.self (commands_text l.commands)
