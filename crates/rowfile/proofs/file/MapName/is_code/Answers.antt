use Rattle.std.proofs.Common.{◌≡◌, false, MatchResult, sym, ap, ◌∙◌, rules}
use Rattle.std.proofs.lemmas.Result.{MatchResult-weaker}
use Rattle.maps.specs.Affine.{affine_map}
use Rattle.maps.specs.Phases.{phase_map}
use Rattle.rowfile.specs.Headings.{has_code}
use Rattle.rowfile.proofs.Named.{made_code}
use Rattle.rowfile.proofs.file.MapName.is_code.Goals as goal

pub returns-in-Cap : goal.returns-in-Cap
unfolding has_code
returns-in-Cap c = c.is_code.ensures ∙ ap (λ m. has_code m c.args.n) (sym c.in-Cap.is)

pub returns-in-Perm : goal.returns-in-Perm
unfolding has_code
returns-in-Perm c = c.is_code-in-Perm.ensures ∙ ap (λ m. has_code m c.args.n) (sym c.in-Perm.is)

pub returns-in-Aff : goal.returns-in-Aff
unfolding has_code
returns-in-Aff c =
    let n = c.args.n in
    let b = c.is_ok_and.result in
    let m : MatchResult c.new.result (λ s. b ≡ (affine_map s.f.modulus 0 0 0 0).elements.codes n) (λ e. b ≡ false) = MatchResult-weaker c.new.result c.is_ok_and.ensures (λ s p. search rules) (λ e p. p) in
    made_code _ _ _ c.new.result b _ c.new.ensures.makes m (λ s h. ap (λ k. (affine_map k 0 0 0 0).elements.codes n) h.0) ∙ ap (λ m. has_code m n) (sym c.in-Aff.is)

pub returns-in-Phase : goal.returns-in-Phase
unfolding has_code
returns-in-Phase c =
    let n = c.args.n in
    let b = c.is_ok_and-in-Phase.result in
    let m : MatchResult c.new-in-Phase.result (λ s. b ≡ (phase_map s.modulus).elements.codes n) (λ e. b ≡ false) = MatchResult-weaker c.new-in-Phase.result c.is_ok_and-in-Phase.ensures (λ s p. search rules) (λ e p. p) in
    made_code _ _ _ c.new-in-Phase.result b _ c.new-in-Phase.ensures m (λ s h. ap (λ k. (phase_map k).elements.codes n) h) ∙ ap (λ m. has_code m n) (sym c.in-Phase.is)
