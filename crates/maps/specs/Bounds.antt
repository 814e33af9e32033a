-- What the tests of maps say as facts. Assumes nothing.
use Rattle.std.specs.Prelude.{◌≡◌, ℕ, ◌≤◌, Bool, true, false, T, refl}
use Rattle.std.proofs.Common.{sym, arith}
use Rattle.std.proofs.lemmas.Bool.Decides.{nat_tests}
use Rattle.exchange.specs.Meaning.{Exchange}
use Rattle.exchange.specs.Rules.{guarded}
use Rattle.maps.specs.Making.{is_modulus}

pub holds : (b : Bool) → T b → b ≡ true
holds true h = refl
holds false h = absurd h

pub modulus_bounds : (m : ℕ) → T (is_modulus m) → (1 ≤ m) × (m ≤ 65535)
modulus_bounds m h = let e = holds _ h in (grind (arith, nat_tests), grind (arith, nat_tests))

-- the completed exchange of two elements is the rule's
pub on_elements : {E : Type 0} (belongs : E → Bool) (f : Exchange E) (x y : E) → true ≡ belongs x → true ≡ belongs y → guarded belongs f x y ≡ f x y
on_elements belongs f x y p q = simp (sym p, sym q)
