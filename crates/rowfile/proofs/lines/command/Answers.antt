use Rattle.std.proofs.Common.{◌≡◌, ℕ, List, [], ◌∷◌, length, Err, Result, sym, refl, ap, ◌∙◌, inl, arith}
use Rattle.std.proofs.lemmas.Result.{err_from_is_err_and}
use Rattle.exchange.specs.declared.refusal.Refusal.{Refusal}
use Rattle.rowfile.specs.Lines.{Bytes}
use Rattle.rowfile.specs.Files.{letter, argument}
use Rattle.rowfile.specs.Judging.{Judged, Misses, fields_of}
use Rattle.rowfile.specs.declared.file.Heading.{Heading}
use Rattle.rowfile.specs.declared.file.Command.{Command}
use Rattle.rowfile.specs.declared.file.Stage.TheVariants.{Commands}
use Rattle.rowfile.specs.Faults.Ground.{no_rule}
use Rattle.rowfile.specs.declared.file.Command.TheVariants.{Sweep, Exchange, ExchangeBack, Raise, TakeBack, Print}
use Rattle.rowfile.proofs.Words.{command_misses, no_letter, six, with_number}
use Rattle.rowfile.proofs.lines.command.Goals as goal

-- a command without the number that belongs to its letter, or with one too many
misses : (h : Heading) (c : Command) (k l : ℕ) (fs : List Bytes) (e : Refusal) (r : Result Command Refusal) → (x : Refusal) × (r ≡ Err x) × (x ≡ e) → k ≡ l → l ∷ [] ≡ letter c → Misses (length (argument c)) fs e → Judged (Commands h) ((k ∷ []) ∷ fs) r
misses h c k l fs e r p q w m = rw (p.1, p.2) (command_misses h c (k ∷ []) fs e (ap (λ n. n ∷ []) q ∙ w) m)

pub returns-in_err-code-in-S : goal.returns-in_err-code-in-S
returns-in_err-code-in-S c = misses c.args.heading (Sweep 0) c.args.letter _ (fields_of c.args.fields) _ _ (err_from_is_err_and c.from_residual.result c.from_residual.ensures.1) c.in-S.is refl c.in_err-code-in-S.ensures

pub returns-in_err-place-in-X : goal.returns-in_err-place-in-X
returns-in_err-place-in-X c = misses c.args.heading (Exchange 0) c.args.letter _ (fields_of c.args.fields) _ _ (err_from_is_err_and c.from_residual-in_err-place-in-X.result c.from_residual-in_err-place-in-X.ensures.1) c.in-X.is refl c.in_err-place-in-X.ensures

pub returns-in_err-place-in-Y : goal.returns-in_err-place-in-Y
returns-in_err-place-in-Y c = misses c.args.heading (ExchangeBack 0) c.args.letter _ (fields_of c.args.fields) _ _ (err_from_is_err_and c.from_residual-in_err-place-in-Y.result c.from_residual-in_err-place-in-Y.ensures.1) c.in-Y.is refl c.in_err-place-in-Y.ensures

pub returns-in_err-kind-in-N : goal.returns-in_err-kind-in-N
returns-in_err-kind-in-N c = misses c.args.heading (Raise 0) c.args.letter _ (fields_of c.args.fields) _ _ (err_from_is_err_and c.from_residual-in_err-kind-in-N.result c.from_residual-in_err-kind-in-N.ensures.1) c.in-N.is refl c.in_err-kind-in-N.ensures

pub returns-in_err-numbers-in-B : goal.returns-in_err-numbers-in-B
returns-in_err-numbers-in-B c = misses c.args.heading TakeBack c.args.letter _ (fields_of c.args.fields) _ _ (err_from_is_err_and c.from_residual-in_err-numbers-in-B.result c.from_residual-in_err-numbers-in-B.ensures.1) c.in-B.is refl c.in_err-numbers-in-B.ensures

pub returns-in_err-numbers-in-P : goal.returns-in_err-numbers-in-P
returns-in_err-numbers-in-P c = misses c.args.heading Print c.args.letter _ (fields_of c.args.fields) _ _ (err_from_is_err_and c.from_residual-in_err-numbers-in-P.result c.from_residual-in_err-numbers-in-P.ensures.1) c.in-P.is refl c.in_err-numbers-in-P.ensures

pub returns-then-not-is_code : goal.returns-then-not-is_code
returns-then-not-is_code c =
    let p = with_number c.args.letter _ _ _ c.in-S.is c.in_ok-code-in-S.ensures in
    no_rule (Sweep _) p.0 p.1 (refl, inl (sym c.if-not-is_code.ensures))

pub returns-in_default : goal.returns-in_default
returns-in_default c = no_letter c.args.heading c.args.letter _ (six c.args.letter (λ e. omega arith) (λ e. omega arith) (λ e. omega arith) (λ e. omega arith) (λ e. omega arith) (λ e. omega arith))
