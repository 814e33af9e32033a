use Rattle.std.proofs.Common.{sym, ap, ◌∙◌, arith}
use Rattle.bench.proofs.Walks.{from_end, from_next, from_start}
use Rattle.bench.proofs.walk.sweep_row.Goals as goal

pub loop-place-init : goal.loop-place-init
loop-place-init g c = from_start _ _ _

pub loop-place-preserved : goal.loop-place-preserved
loop-place-preserved g c =
    let m = g.M.ExchangeMap.meaning c.args.map.now in
    from_next m _ _ c.place-item.result _ _ (omega arith) c.place-item.is (c.cross-left.ensures ∙ ap (m.cross _) (sym c.place-item.is)) ∙ c.loop-place.invariant

pub returns : goal.returns
returns g c = sym (from_end _ _ _ _ (omega arith)) ∙ c.loop-place.invariant
