use Rattle.std.proofs.Common.{◌≡◌, ◌∷◌, drop, sym, ap, ◌∙◌, subst, rules}
use Rattle.exchange.specs.declared.refusal.Refusal.TheVariants.{BadForm}
use Rattle.rowfile.specs.Lines.{behind, fields}
use Rattle.rowfile.specs.Faults.{Ground}
use Rattle.rowfile.proofs.Parts.{parts_cut}
use Rattle.rowfile.proofs.Words.{unfit}
use Rattle.rowfile.proofs.lines.recognize.Goals as goal

pub returns-in_default : goal.returns-in_default
returns-in_default c =
    let s = c.args.stage in
    let f = c.split_at.result.0.now in
    let fs = behind 9 (drop c.until.result c.args.bytes.now) in
    let e : fields c.args.bytes.now ≡ f ∷ fs = parts_cut 9 c.args.bytes.now c.until.result c.until.ensures ∙ ap (λ k. k ∷ fs) (sym c.split_at.ensures.front) in
    let g = unfit s f fs (λ m q. search rules) (λ h m q. search rules) (λ h m q. search rules) in
    subst (λ l. Ground s l BadForm) (sym e) g
