use Rattle.std.proofs.Common.{rules}
use Rattle.maps.specs.AffineLaws.{commute}
use Rattle.maps.proofs.affine.Affine.new.Goals as goal

pub returns-clause-commutes : goal.returns-clause-commutes
returns-clause-commutes c = commute c.args.m c.args.a c.args.b c.args.c c.args.d (search rules)
