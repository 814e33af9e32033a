use Rattle.std.proofs.Common.{refl}
use Rattle.maps.specs.Affine.{back, none_shared}
use Rattle.maps.specs.Permutations.{each_once, eight}
use Rattle.session.proofs.worked.worked_examples_hold.Goals as goal

pub returns : goal.returns
unfolding back none_shared each_once eight
returns c = refl
