use Rattle.std.proofs.Common.{◌∷◌, [], codes as bytes, refl, ap, arith}
use Rattle.std.proofs.lemmas.Result.{IfOk-weaker}
use Rattle.runs.specs.Book.{exchange, sweep, take_back}
use Rattle.runs.specs.Exchanges.{back, forth}
use Rattle.bench.specs.Bench.{code_answer, codes_answer, held}
use Rattle.session.specs.Played.{code_fields}
use Rattle.session.proofs.Stepping.{code_told, codes_told, raise_reaches, raised_done, raised_refused, rewritten, told, whole_row}
use Rattle.session.proofs.commands.Player.step.Goals as goal

pub returns-in-Sweep-clause-steps : goal.returns-in-Sweep-clause-steps
returns-in-Sweep-clause-steps g c =
    let m = g.M.ExchangeMap.meaning c.args.self.now.map.now in
    let does = rw (c.deref_mut.ensures.value, c.element-carrier.ensures) at c.sweep-answer.ensures.does in
    rw (c.in-Sweep.is, rewritten c.args.self.now.row.len c.sweep-answer.new.row _ (omega arith))
    (told (g.met.M.ExchangeMap.lawful c.args.self.now.map.now) (λ n. n ∷ []) (bytes "S") (sweep (m.elements.element c.in-Sweep.code)) (code_answer c.sweep-answer.result) c.sweep-answer.result _ _ _ _ _ (code_told (bytes "S") c.sweep-answer.result) does c.say_answer.ensures)

pub returns-in-TakeBack-clause-steps : goal.returns-in-TakeBack-clause-steps
returns-in-TakeBack-clause-steps g c =
    let does = rw c.deref_mut-in-TakeBack.ensures.value at c.take_back-answer.ensures.does in
    rw (c.in-TakeBack.is, rewritten c.args.self.now.row.len c.take_back-answer.new.row _ (omega arith))
    (told (g.met.M.ExchangeMap.lawful c.args.self.now.map.now) (λ n. n ∷ []) (bytes "B") take_back (code_answer c.take_back-answer.result) c.take_back-answer.result _ _ _ _ _ (code_told (bytes "B") c.take_back-answer.result) does c.say_answer-in-TakeBack.ensures)

pub returns-in-Exchange-clause-steps : goal.returns-in-Exchange-clause-steps
returns-in-Exchange-clause-steps g c =
    let does = rw c.deref.ensures.value at c.exchange-answer.ensures.does in
    rw c.in-Exchange.is
    (told (g.met.M.ExchangeMap.lawful c.args.self.now.map.now) (λ q. q.0 ∷ q.1 ∷ []) (bytes "X") (exchange forth c.in-Exchange.place) (codes_answer c.exchange-answer.result) c.exchange-answer.result _ _ _ _ _ (codes_told (bytes "X") c.exchange-answer.result) does c.say_answer-in-Exchange.ensures)

pub returns-in-ExchangeBack-clause-steps : goal.returns-in-ExchangeBack-clause-steps
returns-in-ExchangeBack-clause-steps g c =
    let does = rw c.deref-in-ExchangeBack.ensures.value at c.exchange_back-answer.ensures.does in
    rw c.in-ExchangeBack.is
    (told (g.met.M.ExchangeMap.lawful c.args.self.now.map.now) (λ q. q.0 ∷ q.1 ∷ []) (bytes "Y") (exchange back c.in-ExchangeBack.place) (codes_answer c.exchange_back-answer.result) c.exchange_back-answer.result _ _ _ _ _ (codes_told (bytes "Y") c.exchange_back-answer.result) does c.say_answer-in-ExchangeBack.ensures)

pub say_log-requires : goal.say_log-requires
say_log-requires g c =
    let d = rw c.deref-in-Raise.ensures.value at c.in-Ok.ensures.attempted in
    raise_reaches (g.M.ExchangeMap.meaning c.args.self.now.map.now) g.R.Permission.allowed c.in-Raise.kind (held c.args.self.now.bench c.args.self.now.row.items c.args.self.now.halves) _ d

pub returns-in-Ok-clause-steps : goal.returns-in-Ok-clause-steps
returns-in-Ok-clause-steps g c =
    let l = g.met.M.ExchangeMap.lawful c.args.self.now.map.now in
    let d = rw c.deref-in-Raise.ensures.value at c.in-Ok.ensures.attempted in
    IfOk-weaker c.say_log.result _ _
    (λ u e filled xs p. rw c.in-Raise.is (raised_done l filled xs _ _ p g.R.Permission.allowed c.in-Raise.kind _ _ d e))
    c.say_log.ensures

pub returns-in-Err-clause-steps : goal.returns-in-Err-clause-steps
returns-in-Err-clause-steps g c =
    let l = g.met.M.ExchangeMap.lawful c.args.self.now.map.now in
    let d = rw c.deref-in-Raise.ensures.value at c.in-Err.ensures.attempted in
    IfOk-weaker c.say_refusal.result _ _
    (λ u e filled xs p. rw c.in-Raise.is (raised_refused l filled xs _ _ p g.R.Permission.allowed c.in-Raise.kind c.in-Err.refusal _ _ d e))
    c.say_refusal.ensures

pub returns-in-Print-clause-steps : goal.returns-in-Print-clause-steps
returns-in-Print-clause-steps g c =
    let m = g.M.ExchangeMap.meaning c.args.self.now.map.now in
    let l = g.met.M.ExchangeMap.lawful c.args.self.now.map.now in
    IfOk-weaker c.say_elements.result _ _
    (λ u e filled xs p. rw c.in-Print.is (xs, _, (refl, ap (λ zs. bytes "row" ∷ code_fields m zs) (whole_row l filled xs _ p)), p, e))
    (rw c.deref-in-Print.ensures.value at c.say_elements.ensures)
