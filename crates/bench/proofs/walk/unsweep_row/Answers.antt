use Rattle.std.proofs.Common.{sym, ◌∙◌, arith}
use Rattle.bench.proofs.Walks.{below_all, below_next, below_none}
use Rattle.bench.proofs.walk.unsweep_row.Goals as goal

pub loop-i-init : goal.loop-i-init
loop-i-init g c = below_all _ _ _

pub loop-i-preserved : goal.loop-i-preserved
loop-i-preserved g c = below_next _ _ _ _ c.index-row-i.result _ c.loop-i-test.true (omega arith) c.index-row-i.is c.uncross-former.ensures ∙ c.loop-i.invariant

pub returns : goal.returns
returns g c = sym (below_none _ _ _ _ c.loop-i-test.false) ∙ c.loop-i.invariant
