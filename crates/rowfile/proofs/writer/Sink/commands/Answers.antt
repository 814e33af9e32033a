use Rattle.std.proofs.Common.{◌+◌, [], ◌∷◌, drop, sym, ◌∙◌, append_assoc}
use Rattle.std.proofs.lemmas.List.{at_drop_more}
use Rattle.rowfile.specs.Writing.{command_line, commands_text}
use Rattle.rowfile.proofs.Laid.{left_step}
use Rattle.rowfile.proofs.writer.Sink.commands.Goals as goal

pub loop-command-preserved : goal.loop-command-preserved
loop-command-preserved c =
    let t = commands_text (drop (c.loop-command.command-index + 1) c.args.commands.now) in
    let e = at_drop_more commands_text c.args.commands.now c.loop-command.command-index _ c.loop-command-test.true in
    left_step c.loop-command.invariant (e ∙ sym (append_assoc (command_line _) (10 ∷ []) t)) c.command.ensures
