use Rattle.maps.proofs.Euclid.{Remainders}
use Rattle.maps.proofs.affine.inverse_modulo.Given as goal

abbrev pub invariant-loop-r1 : goal.invariant-loop-r1
invariant-loop-r1 l = Remainders l.a l.m l.r0 l.r1 l.t0 l.t1

abbrev pub decreases-loop-r1 : goal.decreases-loop-r1
decreases-loop-r1 l = l.r1
