-- What is read and written again. Assumes nothing.
use Rattle.std.proofs.Common.{◌≡◌, ℕ, ◌<◌, List, ◌++◌, length, drop, Ok, Err, sym, ap, ◌∙◌, subst, inl, inr, arith}
use Rattle.exchange.specs.declared.refusal.Refusal.{Refusal}
use Rattle.exchange.specs.declared.refusal.Refusal.TheVariants.{TooLong}
use Rattle.rowfile.specs.Lines.{Bytes}
use Rattle.rowfile.specs.Files.{File, text_of, Keeps}
use Rattle.rowfile.specs.Copying.{Copies}
use Rattle.rowfile.specs.Writing.{filed, Unwritten, WritesFile}
use Rattle.rowfile.specs.Writing.Unwritten.{misfit, no_room}
use Rattle.rowfile.specs.declared.file.Command.{Command}
use Rattle.rowfile.specs.declared.file.Heading.{Heading}
use Rattle.rowfile.specs.declared.file.Fault.{Fault}
use Rattle.rowfile.specs.declared.file.ReadError.TheVariants.{Fault as Faulted}
use Rattle.rowfile.proofs.Verdicts.{no_misfit}

module _ (t out after : Bytes) (f : File) (k : Keeps f) (e : t ≡ text_of f) where
  pub copy_ok : (n : ℕ) → WritesFile f out (Ok n) after → Copies t out (Ok n) after
  copy_ok n h = (h.1 ∙ ap length (sym e), h.2, h.3 ∙ ap (λ b. b ++ drop n out) (sym e))

  short : (x : Fault) → Unwritten f (length out) x → (Faulted x ≡ Faulted (record { line = 0; refusal = TooLong })) × (length out < length t)
  short x (misfit m) = absurd (no_misfit f x k.0 m)
  short x (no_room g (inl l) n r) = absurd (omega (arith, k.1))
  short x (no_room g (inr l) n r) =
      (ap (λ (i : ℕ). let y : Fault = record { line = i; refusal = x.refusal } in Faulted y) n ∙ ap (λ (i : Refusal). let y : Fault = record { line = 0; refusal = i } in Faulted y) r, omega (arith, ap length e))

  pub copy_err : (x : Fault) → WritesFile f out (Err x) after → Copies t out (Err (Faulted x)) after
  copy_err x h = (h.1, inr (short x h.0))

-- what is said of a file, of its parts under other names
pub says_parts : (t : Bytes) (h : Heading) (ns ms : List ℕ) (cs ds : List Command) → ns ≡ ms → cs ≡ ds → Keeps (filed h ms ds) × (t ≡ text_of (filed h ms ds)) → Keeps (filed h ns cs) × (t ≡ text_of (filed h ns cs))
says_parts t h ns ms cs ds p q k =
    let e : filed h ms ds ≡ filed h ns cs = ap (λ x. filed h x ds) (sym p) ∙ ap (filed h ns) (sym q) in
    subst (λ f. Keeps f × (t ≡ text_of f)) e k
