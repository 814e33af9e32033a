use Rattle.std.proofs.Common.{sym, ◌∙◌}
use Rattle.exchange.specs.LayersLemmas.{inverse_returning, uncross_is_cross}
use Rattle.exchange.proofs.inverse.InverseReturningMap.recross.Goals as goal

pub returns : goal.returns
returns g c =
    let l = g.met.M.ExchangeMap.lawful c.args.self.now.0 in
    let r = c.recross.ensures.returning in
    record { value = c.recross.ensures.value ∙ sym (uncross_is_cross l r _ _); returning = inverse_returning l r }
