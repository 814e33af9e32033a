use native.Mathlib.Nat.{sub-zero}
use Rattle.std.proofs.Common.{arith}
use Rattle.runs.specs.Book.{log_empty, stray}
use Rattle.bench.proofs.Judging.{not_empty, nothing_stray, reaching, take_back_clear}
use Rattle.bench.proofs.Reading.{newest_tells, told_no, told_yes}
use Rattle.bench.proofs.bench.Running.judge_take_back.Goals as goal

pub returns-then-self-eq0 : goal.returns-then-self-eq0
returns-then-self-eq0 g c = (log_empty c.if-self-eq0.true, reaching _ _ _ c.in_ok-judge_memory.ensures.enough)

pub returns-then-not-entry_belongs-all_belong : goal.returns-then-not-entry_belongs-all_belong
returns-then-not-entry_belongs-all_belong g c =
    let m = g.M.ExchangeMap.meaning c.args.map.now in
    let enough = c.in_ok-judge_memory.ensures.enough in
    let tells = newest_tells m c.args.halves.now c.args.self.now.sweeps _ c.entry_belongs.result c.all_belong.result (omega arith) enough.2 (omega (arith, enough)) c.entry_belongs.ensures (simp sub-zero at c.all_belong.ensures) in
    (stray (told_no _ tells c.if-not-entry_belongs-all_belong.true), not_empty _ _ enough c.if-self-eq0.false)

pub returns : goal.returns
returns g c =
    let m = g.M.ExchangeMap.meaning c.args.map.now in
    let enough = c.in_ok-judge_memory.ensures.enough in
    let tells = newest_tells m c.args.halves.now c.args.self.now.sweeps _ c.entry_belongs.result c.all_belong.result (omega arith) enough.2 (omega (arith, enough)) c.entry_belongs.ensures (simp sub-zero at c.all_belong.ensures) in
    take_back_clear _ _ (nothing_stray _ _ _ (not_empty _ _ enough c.if-self-eq0.false) (told_yes _ tells c.if-not-entry_belongs-all_belong.false))
