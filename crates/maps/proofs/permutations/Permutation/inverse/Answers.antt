use Rattle.std.proofs.Common.{arith}
use Rattle.maps.proofs.Arrays.{inverted_all, inverted_more}
use Rattle.maps.specs.Images.{perm, small}
use Rattle.maps.specs.PermutationLaws.{group, made_element}
use Rattle.maps.proofs.permutations.Permutation.inverse.Goals as goal

pub bounds-word-from : goal.bounds-word-from
bounds-word-from c = omega (arith, c.from.ensures, small (perm c.args.self.word c.args.self.belongs) c.loop-i.i c.loop-i-test.true)

pub loop-i-preserved : goal.loop-i-preserved
loop-i-preserved c = inverted_more _ _ _ _ (perm c.args.self.word c.args.self.belongs) c.loop-i.invariant c.loop-i-test.true c.from.ensures

pub invariant_of-result : goal.invariant_of-result
invariant_of-result c =
    let x = c.args.self.word in
    record { belongs = made_element (inverted_all _ _ _ (perm x c.args.self.belongs) c.loop-i.invariant c.loop-i-test.false) (group.inv_belongs x c.args.self.belongs) }

pub returns : goal.returns
returns c = inverted_all _ _ _ (perm c.args.self.word c.args.self.belongs) c.loop-i.invariant c.loop-i-test.false
