use Rattle.std.proofs.Common.{true, false, sym, refl, rules}
use Rattle.std.proofs.lemmas.Iterator.{YieldsList-from_range, cases_from_all}
use Rattle.maps.proofs.Arrays.{Looked, told}
use Rattle.maps.proofs.permutations.is_permutation.Goals as goal

pub returns : goal.returns
returns c =
    let x = c.args.x in
    sym (told x _ (search rules) (cases_from_all _ _ _ (λ v. Looked x v true) (λ v. Looked x v false) c.all.ensures.ran (YieldsList-from_range 0 8 8 refl refl) (λ v q k. search rules) (λ v q k. search rules)))
