-- The rows of a file that keeps the rules are rows of the map that it names. Assumes nothing.
use Rattle.std.proofs.Common.{◌≡◌, ℕ, ◌≤◌, Bool, T, length, Ok, Err, IsOk, Result, refl, subst}
use Rattle.std.proofs.ByRecursion.{All-weaker}
use Rattle.std.specs.List.{AllByRecursion}
use Rattle.exchange.proofs.Tests.{T_parts}
use Rattle.exchange.specs.declared.refusal.Refusal.{Refusal}
use Rattle.maps.specs.Affine.{affine_map, affine_parameters}
use Rattle.maps.specs.Capacity.{capacity_map}
use Rattle.maps.specs.Making.{Makes, is_modulus}
use Rattle.maps.specs.Permutations.{perm_map}
use Rattle.maps.specs.Phases.{phase_map}
use Rattle.rowfile.specs.Files.{File, Keeps}
use Rattle.rowfile.specs.Headings.{has_code, lawful_parameters}
use Rattle.rowfile.specs.declared.file.MapName.{MapName}
use Rattle.rowfile.specs.declared.file.MapName.TheVariants.{Cap, Perm, Aff, Phase}
use Rattle.session.specs.Playing.{Rowed}

module _ (f : File) (k : Keeps f) where
  codes_of : (name : MapName) → f.heading.map ≡ name → AllByRecursion (λ n. T (has_code name n)) f.codes
  codes_of name e = subst (λ (x : MapName). AllByRecursion (λ n. T (has_code x n)) f.codes) e k.0.1.1.1

  few : length f.codes ≤ 1024
  few = k.0.1.1.0

  pub cap_row : f.heading.map ≡ Cap → Rowed capacity_map f.codes
  unfolding has_code
  cap_row e = (codes_of Cap e, few)

  pub perm_row : f.heading.map ≡ Perm → Rowed perm_map f.codes
  unfolding has_code
  perm_row e = (codes_of Perm e, few)

  pub aff_row : (m a b c d : ℕ) → f.heading.map ≡ Aff m a b c d → Rowed (affine_map m a b c d) f.codes
  unfolding has_code
  aff_row m a b c d e = (All-weaker _ _ (λ n t. (T_parts _ _ t).1) f.codes (codes_of (Aff m a b c d) e), few)

  pub phase_row : (m : ℕ) → f.heading.map ≡ Phase m → Rowed (phase_map m) f.codes
  unfolding has_code
  phase_row m e = (All-weaker _ _ (λ n t. (T_parts _ _ t).1) f.codes (codes_of (Phase m) e), few)

  pub aff_lawful : (m a b c d : ℕ) → f.heading.map ≡ Aff m a b c d → T (affine_parameters m a b c d)
  unfolding lawful_parameters
  aff_lawful m a b c d e = subst (λ (x : MapName). T (lawful_parameters x)) e k.0.0.1

  pub phase_lawful : (m : ℕ) → f.heading.map ≡ Phase m → T (is_modulus m)
  unfolding lawful_parameters
  phase_lawful m e = subst (λ (x : MapName). T (lawful_parameters x)) e k.0.0.1

-- maps of equal parameters
pub same_affine : {m m' a a' b b' c c' d d' : ℕ} → m ≡ m' → a ≡ a' → b ≡ b' → c ≡ c' → d ≡ d' → affine_map m a b c d ≡ affine_map m' a' b' c' d'
same_affine p q r s t = λ i. affine_map (p i) (q i) (r i) (s i) (t i)

-- parameters that keep a map's rule make it
pub made : {M : Type 0} (rule : Bool) (has : M → Type 0) (r : Result M Refusal) → Makes rule has r → T rule → IsOk r
made rule has (Ok s) p t = refl
made rule has (Err e) p t = absurd (subst T p.0 t)
