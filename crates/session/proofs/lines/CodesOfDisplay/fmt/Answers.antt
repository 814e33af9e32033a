use Rattle.std.proofs.Common.{decimal, rules}
use Rattle.std.proofs.Output.{has_written_append, has_written_of_eq}
use Rattle.session.proofs.Printing.{led_more}
use Rattle.session.proofs.lines.CodesOfDisplay.fmt.Goals as goal

pub loop-x-preserved : goal.loop-x-preserved
loop-x-preserved g c = λ plain.
    let m = g.M.ExchangeMap.meaning c.args.self.now.map.now in
    let more = led_more (λ x. decimal (m.elements.code x)) c.args.self.now.elements.now c.loop-x.x-index c.x-item.result c.loop-x-test.true in
    has_written_of_eq _ _ _ _ _ (rw (← c.x-item.is) at more) (has_written_append _ _ _ _ _ _ (c.loop-x.invariant plain) (search (rules, c.code-code.ensures)))
