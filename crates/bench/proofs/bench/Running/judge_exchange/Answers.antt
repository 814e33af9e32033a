use Rattle.std.proofs.Common.{arith}
use Rattle.runs.specs.Book.{no_next_place, stray}
use Rattle.bench.proofs.Judging.{exchange_clear, in_the_log, nothing_stray, reaching}
use Rattle.bench.proofs.Reading.{entries_tell, told_no, told_yes}
use Rattle.bench.proofs.bench.Running.judge_exchange.Goals as goal

pub returns-then-place-saturating_sub : goal.returns-then-place-saturating_sub
returns-then-place-saturating_sub g c w = (no_next_place (omega arith), reaching _ _ _ c.in_ok-judge_memory.ensures.enough)

pub returns-then-not-entry_belongs : goal.returns-then-not-entry_belongs
returns-then-not-entry_belongs g c w =
    let m = g.M.ExchangeMap.meaning c.args.map.now in
    let in-log = entries_tell m c.args.halves.now c.args.self.now.sweeps c.args.place c.entry_belongs.result c.entry_belongs-2.result (omega arith) c.entry_belongs.ensures c.entry_belongs-2.ensures in
    (stray (told_no _ in-log c.if-not-entry_belongs.true), in_the_log _ _ w c.args.place c.in_ok-judge_memory.ensures.enough (omega arith))

pub returns : goal.returns
returns g c w =
    let m = g.M.ExchangeMap.meaning c.args.map.now in
    let in-log = entries_tell m c.args.halves.now c.args.self.now.sweeps c.args.place c.entry_belongs.result c.entry_belongs-2.result (omega arith) c.entry_belongs.ensures c.entry_belongs-2.ensures in
    exchange_clear _ _ w c.args.place
    (nothing_stray _ _ _ (in_the_log _ _ w c.args.place c.in_ok-judge_memory.ensures.enough (omega arith)) (told_yes _ in-log c.if-not-entry_belongs.false))
