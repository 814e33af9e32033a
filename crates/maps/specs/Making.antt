-- What making a map of given parameters answers. Assumes nothing.
use Rattle.std.specs.Prelude.{◌≡◌, ℕ, Bool, false, ◌&&◌, T, Result, MatchResult, nat_le}
use Rattle.exchange.specs.declared.refusal.Refusal.{Refusal}
use Rattle.exchange.specs.declared.refusal.Refusal.TheVariants.{BadParameters}

-- a map with the given parameters exactly where these keep the map's rule, and else the refusal of bad parameters
abbrev pub Makes : {M : Type 0} → Bool → (M → Type 0) → Result M Refusal → Type 0
Makes rule has r = MatchResult r (λ s. T rule × has s) (λ e. (rule ≡ false) × (e ≡ BadParameters))

-- the moduli that maps are made with: 1 to 65,535
abbrev pub is_modulus : ℕ → Bool
is_modulus m = nat_le 1 m && nat_le m 65535
