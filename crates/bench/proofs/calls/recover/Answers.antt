use Rattle.std.proofs.Common.{sym, refl, ap, ◌∙◌}
use Rattle.runs.specs.Sweeps.{swept}
use Rattle.runs.proofs.Sweeps.{take_back_undone}
use Rattle.bench.proofs.calls.recover.Goals as goal

pub returns : goal.returns
returns g c =
    let m = g.M.ExchangeMap.meaning c.args.map.now in
    let back = c.unsweep_row-back.ensures in
    let told = c.code-code.ensures ∙ ap (λ p. m.elements.code p.0) back in
    let undone = take_back_undone (g.met.M.ExchangeMap.lawful c.args.map.now) c.args.went c.args.row.now c.requires in
    (λ e. c.if-code.false (told ∙ (e ∙ sym c.code.ensures)), refl, ap (λ p. p.0) (c.sweep_row.ensures ∙ (ap (λ p. swept m p.0 p.1) back ∙ undone)))
