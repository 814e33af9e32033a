use Rattle.std.proofs.Common.{◌≡◌, suc, List, get_or, sym, refl, ap, ◌∙◌, ap₂, add-one, arith, rules}
use Rattle.runs.specs.Book.{codes}
use Rattle.runs.specs.Calls.{granted}
use Rattle.runs.specs.Exchanges.{by, exchanged, forth}
use Rattle.runs.proofs.Rules.{clear_all, granted_place}
use Rattle.bench.specs.Bench.{codes_answer}
use Rattle.bench.specs.Log.{Entries}
use Rattle.bench.proofs.Acting.{passed_up, unchanged}
use Rattle.bench.proofs.Exchanging.{below_count, read_below}
use Rattle.bench.proofs.Judging.{reached}
use Rattle.bench.proofs.bench.Running.exchange_by.Goals as goal

pub returns-in_err-judge_exchange-clause-does : goal.returns-in_err-judge_exchange-clause-does
returns-in_err-judge_exchange-clause-does g c w answers = passed_up codes_answer _ c.from_residual.ensures.1 (unchanged (c.in_err-judge_exchange.ensures w))

pub exchange_entries-requires-clause-in_log : goal.exchange_entries-requires-clause-in_log
exchange_entries-requires-clause-in_log g c =
    let clear = c.in_ok-judge_exchange.ensures forth in
    let r = reached _ _ _ 6 (omega arith) clear in
    let p = granted_place (clear_all _ clear) in
    (omega arith, r.2, omega arith)

pub returns-clause-does : goal.returns-clause-does
returns-clause-does g c w answers =
    let m = g.M.ExchangeMap.meaning c.args.map.now in
    let f = by m w in
    let n = c.args.self.now.sweeps in
    let i = c.args.place in
    let clear = c.in_ok-judge_exchange.ensures w in
    let r = reached _ _ _ 6 (omega arith) clear in
    let p = granted_place (clear_all _ clear) in
    let moved = c.in_ok-older.ensures.exchanged f answers in
    let came : c.exchange_entries.new.log.incoming.now ≡ exchanged f i c.args.halves.now.incoming.now = ap (λ (l : Entries _). l.incoming) moved.0 in
    let went : c.exchange_entries.new.log.outgoing.now ≡ exchanged f i c.args.halves.now.outgoing.now = ap (λ (l : Entries _). l.outgoing) moved.0 in
    let older = read_below f m n i i c.args.halves.now.incoming.now c.in_ok-older.older p r.2 (omega arith) (moved.1 ∙ ap (λ (l : List _). get_or l i c.in_ok-older.older) came) in
    let newer = read_below f m n i (suc i) c.args.halves.now.incoming.now c.in_ok-older.newer p r.2 p (rw add-one at moved.2 ∙ ap (λ (l : List _). get_or l (suc i) c.in_ok-older.newer) came) in
    granted (clear_all _ clear) (
      record {
        boxes_kept = refl;
        sweeps_left = refl;
        row_left = refl;
        incoming_left = ◌∙◌ {b = c.exchange_entries.new.log.incoming.now} (search rules) (came ∙ sym (below_count f n i c.args.halves.now.incoming.now p r.2));
        outgoing_left = ◌∙◌ {b = c.exchange_entries.new.log.outgoing.now} (search rules) (went ∙ sym (below_count f n i c.args.halves.now.outgoing.now p (omega arith)));
      },
      ap₂ codes (c.code.ensures ∙ ap m.elements.code older) (c.code-2.ensures ∙ ap m.elements.code newer),
    )
