use Rattle.std.proofs.Common.{append_assoc, rules, subst}
use Rattle.std.proofs.lemmas.Result.{IfOk-weaker}
use Rattle.rowfile.specs.Reading.{Refuses, file_of}
use Rattle.session.specs.Played.{faulty, played}
use Rattle.session.proofs.Single.{one_session}
use Rattle.session.proofs.files.play.Goals as goal

pub returns-in-Ok : goal.returns-in-Ok
returns-in-Ok c =
    let says = c.in-Ok.ensures.says in
    record { lines = IfOk-weaker c.play_file.result _ _ (λ s plays. played (file_of c.in-Ok.file) says.0 says.1 plays) c.play_file.ensures; one = one_session }

-- by the bytes printed, so that any spelling of them is proved, and other bytes alone are refused
pub returns-in_ok-format-in-Err-Fault : goal.returns-in_ok-format-in-Err-Fault
returns-in_ok-format-in-Err-Fault c =
    let fault = c.in-Err-Fault.fault in
    let says = subst (Refuses c.args.text.now) c.in-Err-Fault.field-0-is c.in-Err-Fault.ensures.says in
    record { lines = faulty fault.line fault.refusal says (search (rules, append_assoc)); one = one_session }

pub returns-in_err-format-in-Err-Fault-clause-one : goal.returns-in_err-format-in-Err-Fault-clause-one
returns-in_err-format-in-Err-Fault-clause-one c = one_session

pub returns-in-Err-Memory-clause-one : goal.returns-in-Err-Memory-clause-one
returns-in-Err-Memory-clause-one c = one_session
