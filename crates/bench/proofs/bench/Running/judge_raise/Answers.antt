use native.Mathlib.Nat.{sub-zero}
use Rattle.runs.specs.Book.{no_such_kind, stray}
use Rattle.bench.proofs.Judging.{nothing_stray, of_the_kind, raise_clear, reaching}
use Rattle.bench.proofs.Reading.{logs_tell, newest_there, told_no, told_yes}
use Rattle.bench.proofs.bench.Running.judge_raise.Goals as goal

pub returns-in_default-clause-judged : goal.returns-in_default-clause-judged
returns-in_default-clause-judged g c = (no_such_kind (simp sub-zero at c.in_default.ensures), reaching _ _ _ c.in_ok-judge_memory.ensures.enough)

pub returns-then-not-entries_belong-clause-judged : goal.returns-then-not-entries_belong-clause-judged
returns-then-not-entries_belong-clause-judged g c =
    let m = g.M.ExchangeMap.meaning c.args.map.now in
    let tells = logs_tell m c.args.halves.now c.args.self.now.sweeps _ c.entries_belong.ensures in
    let there = newest_there m _ _ _ (simp sub-zero at c.in-Some.ensures) in
    (stray (told_no _ tells c.if-not-entries_belong.true), of_the_kind _ _ _ c.in_ok-judge_memory.ensures.enough there)

pub returns-clause-judged : goal.returns-clause-judged
returns-clause-judged g c =
    let m = g.M.ExchangeMap.meaning c.args.map.now in
    let tells = logs_tell m c.args.halves.now c.args.self.now.sweeps _ c.entries_belong.ensures in
    let there = newest_there m _ _ _ (simp sub-zero at c.in-Some.ensures) in
    raise_clear _ _ _ (nothing_stray _ _ _ (of_the_kind _ _ _ c.in_ok-judge_memory.ensures.enough there) (told_yes _ tells c.if-not-entries_belong.false))
