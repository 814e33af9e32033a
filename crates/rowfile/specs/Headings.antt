-- Which parameters a named map takes, and which numbers are its codes. Assumes nothing.
use Rattle.std.specs.Prelude.{ℕ, Bool, true, ◌&&◌}
use Rattle.maps.specs.Affine.{affine_map, affine_parameters}
use Rattle.maps.specs.Capacity.{capacity_map}
use Rattle.maps.specs.Making.{is_modulus}
use Rattle.maps.specs.Permutations.{perm_map}
use Rattle.maps.specs.Phases.{phase_map}
use Rattle.rowfile.specs.declared.file.MapName.{MapName}
use Rattle.rowfile.specs.declared.file.MapName.TheVariants.{Cap, Perm, Aff, Phase}

unfoldable pub lawful_parameters : MapName → Bool
lawful_parameters Cap = true
lawful_parameters Perm = true
lawful_parameters (Aff m a b c d) = affine_parameters m a b c d
lawful_parameters (Phase m) = is_modulus m

-- the codes of the map of that name; none where its parameters make no map
unfoldable pub has_code : MapName → ℕ → Bool
has_code Cap n = capacity_map.elements.codes n
has_code Perm n = perm_map.elements.codes n
has_code (Aff m a b c d) n = affine_parameters m a b c d && (affine_map m a b c d).elements.codes n
has_code (Phase m) n = is_modulus m && (phase_map m).elements.codes n
