use Rattle.std.proofs.Common.{◌+◌, List, sym, ap, ◌∙◌, subst, arith, rules}
use Rattle.bench.specs.Log.{Entries}
use Rattle.bench.proofs.Climbing.{Rising, rising_more, risen}
use Rattle.bench.proofs.calls.climb_entries.Goals as goal

pub loop-i-preserved : goal.loop-i-preserved
loop-i-preserved g c =
    let m = g.M.ExchangeMap.meaning c.args.map.now in
    let n = c.args.log.now.count in
    let inv = c.loop-i.invariant in
    let came = inv.2.long in
    let went = inv.3.long in
    let lent = c.in_ok-exchange_entries.ensures.lent in
    let moved = (c.in_ok-exchange_entries.ensures.exchanged m.cross (λ l r p k. search rules)).0 in (
      (lent.0 ∙ inv.0.0, lent.1 ∙ inv.0.1),
      ap (λ (l : Entries _). l.count) moved ∙ inv.1,
      subst (λ (l : List _). Rising m n c.args.place (c.loop-i.i + 1) c.args.log.now.incoming.now l) (sym (ap (λ (l : Entries _). l.incoming) moved)) (rising_more m n c.args.place _ _ _ (omega arith) (omega arith) inv.2),
      subst (λ (l : List _). Rising m n c.args.place (c.loop-i.i + 1) c.args.log.now.outgoing.now l) (sym (ap (λ (l : Entries _). l.outgoing) moved)) (rising_more m n c.args.place _ _ _ (omega arith) (omega arith) inv.3),
    )

pub returns-in_err-exchange_entries-clause-climbed : goal.returns-in_err-exchange_entries-clause-climbed
returns-in_err-exchange_entries-clause-climbed g c = absurd (c.in_err-exchange_entries.ensures.exchanged (g.M.ExchangeMap.meaning c.args.map.now).cross (λ l r p k. search rules))

pub returns-clause-climbed : goal.returns-clause-climbed
returns-clause-climbed g c =
    let inv = c.loop-i.invariant in
    (inv.1, risen _ _ _ _ _ _ c.loop-i-test.false inv.2, risen _ _ _ _ _ _ c.loop-i-test.false inv.3)
