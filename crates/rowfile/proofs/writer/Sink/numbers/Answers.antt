use Rattle.std.proofs.Common.{◌∷◌, [], map, length, decimal, refl, ap, arith}
use Rattle.std.proofs.lemmas.List.{at_drop_more}
use Rattle.rowfile.specs.Lines.{led}
use Rattle.rowfile.proofs.Laid.{left_step}
use Rattle.rowfile.proofs.writer.Sink.numbers.Goals as goal

pub bytes-requires : goal.bytes-requires
bytes-requires c =
    let e = at_drop_more (λ l. led 9 (map decimal l)) c.args.numbers.now c.loop-n.n-index 0 c.loop-n-test.true in
    omega (arith, c.loop-n.invariant.place, ap length e)

pub loop-n-preserved : goal.loop-n-preserved
loop-n-preserved c =
    let e = at_drop_more (λ l. led 9 (map decimal l)) c.args.numbers.now c.loop-n.n-index 0 c.loop-n-test.true in
    let tab = left_step c.loop-n.invariant {xs = 9 ∷ []} e c.bytes.ensures in
    left_step tab refl c.number.ensures
