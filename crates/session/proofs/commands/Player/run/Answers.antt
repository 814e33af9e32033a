use Rattle.std.proofs.Common.{◌∙◌}
use Rattle.session.proofs.Running.{midway_end, midway_more}
use Rattle.session.proofs.commands.Player.run.Goals as goal

pub loop-command-preserved : goal.loop-command-preserved
loop-command-preserved g c =
    let same = c.loop-command.invariant.0 in
    let steps = rw same at c.in_ok-step.ensures.steps in
    (c.in_ok-step.ensures.same_map ∙ same, midway_more _ _ _ _ _ _ _ _ _ _ _ c.loop-command-test.true c.loop-command.invariant.1 steps)

pub returns : goal.returns
returns g c = midway_end _ _ _ _ _ _ _ _ c.loop-command-test.false c.loop-command.invariant.1
