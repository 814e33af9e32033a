use Rattle.std.proofs.Common.{arith}
use Rattle.session.proofs.Filling.{filled_all, filled_more, filled_none}
use Rattle.session.proofs.commands.fill.Goals as goal

pub loop-code-init : goal.loop-code-init
loop-code-init g c = filled_none (g.M.ExchangeMap.meaning c.args.map.now) _ _ _ c.new-bench.ensures

pub loop-code-preserved : goal.loop-code-preserved
loop-code-preserved g c = filled_more (g.met.M.ExchangeMap.lawful c.args.map.now) _ _ _ _ _ _ _ _ _ _ c.loop-code-test.true (omega arith) c.loop-code.invariant c.element-element.ensures c.put.ensures

pub returns : goal.returns
returns g c = filled_all (g.M.ExchangeMap.meaning c.args.map.now) _ _ _ _ _ c.loop-code-test.false (omega arith) c.loop-code.invariant
