use Rattle.maps.proofs.Arrays.{Inverted}
use Rattle.maps.proofs.permutations.Permutation.inverse.Given as goal

abbrev pub invariant-loop-i : goal.invariant-loop-i
invariant-loop-i l = Inverted l.fn.self.word l.word l.i
