use Rattle.std.proofs.Common.{◌<◌, length, ap, ◌∙◌, arith, rules}
use Rattle.std.specs.Array.{list_steps}
use Rattle.std.proofs.iter.Serving.{serving}
use Rattle.std.proofs.lemmas.Iterator.Consumers.{YieldsList-from_shown}
use Rattle.std.proofs.lemmas.Iterator.Adapters.{serves_from_places}
use Rattle.std.proofs.lemmas.List.{get_or_default}
use Rattle.maps.specs.Images.{perm, small}
use Rattle.maps.specs.PermutationLaws.{group, made_element}
use Rattle.maps.proofs.Arrays.{eight_is}
use Rattle.maps.proofs.permutations.Permutation.then.Goals as goal

pub map-requires : goal.map-requires
map-requires c =
    let x = c.args.self.word in
    let p = perm x c.args.self.belongs in (
      omega arith,
      (
        omega arith,
        (
          omega arith,
          serves_from_places (YieldsList-from_shown list_steps (λ x. x) (λ s. s) (λ s t e. ap length e) (λ s x t e. e) x) (λ v q r. search rules)
              (λ v k h e. let b : v < 8 = omega (arith, e ∙ get_or_default x k v 0 h, small p k (omega (arith, p.long))) in grind serving),
        ),
      ),
    )

pub invariant_of-result : goal.invariant_of-result
invariant_of-result c =
    let z = c.map.ensures.items in
    record { belongs = made_element (eight_is _ _ z.long (λ i h. let w = z.at i 0 0 h in search rules)) (group.mul_belongs c.args.self.word c.args.next.word c.args.self.belongs c.args.next.belongs) }

pub returns : goal.returns
returns c =
    let z = c.map.ensures.items in
    eight_is _ _ z.long (λ i h. let w = z.at i 0 0 h in search rules)
