-- What making a map tells of the rule for its parameters. Assumes nothing.
use Rattle.std.proofs.Common.{◌≡◌, Bool, true, false, ◌&&◌, T, is_ok, Ok, Err, Result, MatchResult, sym, refl, ap, ◌∙◌}
use Rattle.exchange.specs.declared.refusal.Refusal.{Refusal}
use Rattle.maps.specs.Making.{Makes}

true_from_T : (b : Bool) → T b → b ≡ true
true_from_T true t = refl
true_from_T false t = absurd t

pub made_ok : {M : Type 0} (rule : Bool) (has : M → Type 0) (r : Result M Refusal) → Makes rule has r → is_ok r ≡ rule
made_ok rule has (Ok s) h = sym (true_from_T rule h.0)
made_ok rule has (Err e) h = sym h.0

-- the codes of a map that is made; none where it is not
pub made_code : {M : Type 0} (rule : Bool) (has : M → Type 0) (code : M → Bool) (r : Result M Refusal) (b y : Bool) → Makes rule has r → MatchResult r (λ s. b ≡ code s) (λ _. b ≡ false) → ((s : M) → has s → code s ≡ y) → b ≡ (rule && y)
made_code rule has code (Ok s) b y h m k = m ∙ (k s h.1 ∙ ap (λ x. x && y) (sym (true_from_T rule h.0)))
made_code rule has code (Err e) b y h m k = m ∙ ap (λ x. x && y) (sym h.0)
