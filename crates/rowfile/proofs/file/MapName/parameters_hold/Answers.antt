use Rattle.std.proofs.Common.{sym, ap, ◌∙◌, ⊎_elim}
use Rattle.rowfile.specs.Headings.{lawful_parameters}
use Rattle.rowfile.proofs.Named.{made_ok}
use Rattle.rowfile.proofs.file.MapName.parameters_hold.Goals as goal

pub returns-in-Cap : goal.returns-in-Cap
unfolding lawful_parameters
returns-in-Cap c = ⊎_elim (λ e. ap lawful_parameters (sym e)) (λ e. ap lawful_parameters (sym e)) c.in-Cap.is

pub returns-in-Aff : goal.returns-in-Aff
unfolding lawful_parameters
returns-in-Aff c = c.is_ok.ensures.value ∙ (made_ok _ _ c.new.result c.new.ensures.makes ∙ ap lawful_parameters (sym c.in-Aff.is))

pub returns-in-Phase : goal.returns-in-Phase
unfolding lawful_parameters
returns-in-Phase c = c.is_ok-in-Phase.ensures.value ∙ (made_ok _ _ c.new-in-Phase.result c.new-in-Phase.ensures ∙ ap lawful_parameters (sym c.in-Phase.is))
