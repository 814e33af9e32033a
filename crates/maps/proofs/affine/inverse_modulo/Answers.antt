use Rattle.std.proofs.Common.{refl, arith}
use Rattle.maps.proofs.Euclid.{inverse_found, not_coprime, remainders_step}
use Rattle.maps.proofs.affine.inverse_modulo.Goals as goal

pub loop-r1-preserved : goal.loop-r1-preserved
loop-r1-preserved c = remainders_step _ _ _ _ _ _ c.loop-r1.invariant (omega arith)

pub returns-then-r0-eq1 : goal.returns-then-r0-eq1
returns-then-r0-eq1 c = inverse_found _ _ _ _ _ _ c.loop-r1.invariant c.if-r0-eq1.true

pub returns-else-r0-eq1 : goal.returns-else-r0-eq1
returns-else-r0-eq1 c = (not_coprime _ _ _ _ _ _ c.loop-r1.invariant c.loop-r1-test.false c.if-r0-eq1.false, refl)
