use Rattle.std.proofs.Common.{rules}
use Rattle.maps.specs.PermutationLaws.{unconjugate_conjugates}
use Rattle.maps.proofs.permutations.Permutation.unconjugate.Goals as goal

pub returns-clause-conjugates : goal.returns-clause-conjugates
returns-clause-conjugates c = search (rules, unconjugate_conjugates)
