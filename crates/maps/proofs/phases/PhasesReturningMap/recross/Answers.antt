use Rattle.exchange.proofs.Completion.{completed_returning}
use Rattle.maps.specs.PhaseLaws.{cross_passage, phase_returns, phase_sound}
use Rattle.maps.proofs.phases.PhasesReturningMap.recross.Goals as goal

pub returns : goal.returns
returns c =
    let s = c.args.self.now in
    let m = s.modulus in
    record {
      value = c.uncross.ensures;
      returning = completed_returning (phase_sound m s.bounded) (phase_returns m);
      passage = λ h n. cross_passage m c.args.left c.args.right _ h n c.uncross.ensures;
    }
