use Rattle.std.proofs.Common.{◌+◌, ap, ◌∙◌, arith}
use Rattle.bench.specs.Log.{Entries, written}
use Rattle.bench.proofs.Exchanging.{two_reads, two_writes}
use Rattle.bench.proofs.calls.exchange_entries.Goals as goal

pub returns-clause-exchanged : goal.returns-clause-exchanged
returns-clause-exchanged g c f answers =
    let i = c.args.place in
    let log = c.args.log.now in
    let came = c.pair-came_left.result in
    let went = c.pair-went_left.result in
    let first = c.in_ok-replace.ensures.replaced.1 in
    let second = c.in_ok-replace-2.ensures.replaced.1 ∙ ap (λ (l : Entries _). written l.count l (i + 1) came.0 went.0) first in
    let came-now = two_writes f i log.incoming.now _ _ came (omega arith) (answers _ _ _ c.pair-came_left.ensures) in
    let went-now = two_writes f i log.outgoing.now _ _ went (omega arith) (answers _ _ _ c.pair-went_left.ensures) in
    let read = two_reads i log.incoming.now came.1 came.0 _ (omega arith) (ap (λ (l : Entries _). l.incoming) second) in
    (second ∙ (λ k. record { count = log.count; incoming = came-now k; outgoing = went-now k }), read.0, read.1)
