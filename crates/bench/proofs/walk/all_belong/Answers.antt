use Rattle.std.proofs.Common.{rules}
use borrow.Author.Tests.{tests}
use Rattle.std.proofs.lemmas.Iterator.{YieldsList-from_slice}
use Rattle.std.proofs.lemmas.Iterator.Search.{all_from_yields_List}
use Rattle.bench.proofs.Reading.{all_belong}
use Rattle.bench.proofs.walk.all_belong.Goals as goal

pub returns : goal.returns
returns g c =
    let m = g.M.ExchangeMap.meaning c.args.map.now in
    let xs = c.args.values.now in
    let told = all_from_yields_List m.elements.belongs _ _ c.all.result c.all.ensures.ran (YieldsList-from_slice xs cc) (λ x b q k. search (rules, tests)) in
    rw told (all_belong m xs)
