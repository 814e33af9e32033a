use Rattle.std.proofs.Common.{rules}
use Rattle.maps.specs.PermutationLaws.{conjugate_conjugates}
use Rattle.maps.proofs.permutations.Permutation.conjugate.Goals as goal

pub returns-clause-conjugates : goal.returns-clause-conjugates
returns-clause-conjugates c = search (rules, conjugate_conjugates)
