-- A line has one verdict: it keeps the rules or has one ground of refusal. Assumes nothing.
use Rattle.std.proofs.Common.{◌≡◌, ℕ, Bool, true, false, T, List, [], ◌∷◌, ◌++◌, map, decimal, sym, refl, ◌∙◌, subst, ⊎_elim, arith}
use lib.ListN.{length-map}
use Rattle.std.specs.List.{AllByRecursion}
use Rattle.exchange.specs.declared.refusal.Refusal.{Refusal}
use Rattle.rowfile.specs.Lines.{Bytes}
use Rattle.rowfile.specs.Files.{Next, Small, Codes, words, numbers, written, swept, Holds, File, rowed, KeepsLine, KeepsLines}
use Rattle.rowfile.specs.Writing.{Misfit}
use Rattle.rowfile.specs.Writing.Misfit.{at_heading, at_row, at_command}
use Rattle.rowfile.specs.Faults.{Any, Form, NoNumber, NoCode, Breaks, Ground}
use Rattle.rowfile.specs.Faults.Ground.{no_form, no_number, no_rule}
use Rattle.rowfile.specs.Headings.{has_code}
use Rattle.rowfile.specs.declared.file.Command.{Command}
use Rattle.rowfile.specs.declared.file.Fault.{Fault}
use Rattle.rowfile.specs.declared.file.Heading.{Heading}
use Rattle.rowfile.specs.declared.file.Stage.{Stage}
use Rattle.rowfile.specs.declared.file.Stage.TheVariants.{Map, Row, Commands}
use Rattle.rowfile.proofs.Alike.{written_same}

-- numbers that are written are numbers
numbers_write : (ns : List ℕ) → Small ns → Any NoNumber (map decimal ns) → ⊥
numbers_write [] s h = h
numbers_write (n ∷ ns) s h = ⊎_elim (λ f. f n (s.0, refl)) (λ g. numbers_write ns s.1 g) h

-- the fields behind the words are told by the form alone
form_numbers : (s : Stage) (x y : Next s) (ns : List Bytes) → written s x ≡ words s y ++ ns → map decimal (numbers s x) ≡ ns
form_numbers Map x y ns e = cc
form_numbers (Row h) x y ns e = cc
form_numbers (Commands h) x y ns e = cc

own_form : (s : Stage) (x : Next s) → Form s (written s x) x (map decimal (numbers s x))
own_form s x = (refl, length-map (numbers s x) decimal)

-- a written line breaks neither form nor numbers
not_misnumbered : (s : Stage) (x y : Next s) (ns : List Bytes) → Small (numbers s x) → Form s (written s x) y ns → Any NoNumber ns → ⊥
not_misnumbered s x y ns m f h = numbers_write (numbers s x) m (subst (Any NoNumber) (sym (form_numbers s x y ns f.0)) h)

not_both : (b : Bool) → T b → b ≡ false → ⊥
not_both true t e = let z : ◌≡◌ {A = ℕ} 0 1 = cc in omega arith
not_both false t e = t

codes_held : (h : Heading) (ns : List ℕ) → Codes h ns → NoCode h ns → ⊥
codes_held h [] c f = f
codes_held h (n ∷ ns) c f = ⊎_elim (λ e. not_both (has_code h.map n) c.0 e) (λ g. codes_held h ns c.1 g) f

held : (s : Stage) (x : Next s) (r : Refusal) → Holds s x → Breaks s x r → ⊥
held Map h r k b = not_both _ k b.1
held (Row h) ns r k b = ⊎_elim (λ f. omega (arith, f.1, k.0)) (λ g. codes_held h ns k.1 g.2) b
held (Commands h) c r k b = codes_held h (swept c) k b.1

-- a line that keeps the rules has no ground of refusal
pub no_ground : (s : Stage) (x : Next s) (r : Refusal) → KeepsLine s x → Ground s (written s x) r → ⊥
no_ground s x r k (no_form f) = f x (map decimal (numbers s x)) (own_form s x)
no_ground s x r k (no_number y ns f h) = not_misnumbered s x y ns k.0 f h
no_ground s x r k (no_rule y e m b) = held s x r k.1 (subst (λ z. Breaks s z r) (sym (written_same s x y k.0 m e)) b)

-- a rule that is broken is one
one_break : (s : Stage) (x : Next s) (r q : Refusal) → Breaks s x r → Breaks s x q → r ≡ q
one_break Map h r q b c = b.0 ∙ sym c.0
one_break (Row h) ns r q b c =
    ⊎_elim
    (λ f. ⊎_elim (λ g. f.0 ∙ sym g.0) (λ g. absurd (omega (arith, f.1, g.1))) c)
    (λ f. ⊎_elim (λ g. absurd (omega (arith, f.1, g.1))) (λ g. f.0 ∙ sym g.0) c)
    b
one_break (Commands h) d r q b c = b.0 ∙ sym c.0

ruled : (s : Stage) (fs : List Bytes) (x : Next s) → fs ≡ written s x → Form s fs x (map decimal (numbers s x))
ruled s fs x e = (e, length-map (numbers s x) decimal)

-- a line has one ground
pub one_ground : (s : Stage) (fs : List Bytes) (r q : Refusal) → Ground s fs r → Ground s fs q → r ≡ q
one_ground s fs r q (no_form f) (no_form g) = refl
one_ground s fs r q (no_form f) (no_number y ns g h) = absurd (f y ns g)
one_ground s fs r q (no_form f) (no_rule y e m b) = absurd (f y _ (ruled s fs y e))
one_ground s fs r q (no_number x ns f h) (no_form g) = absurd (g x ns f)
one_ground s fs r q (no_number x ns f h) (no_number y ms g i) = refl
one_ground s fs r q (no_number x ns f h) (no_rule y e m b) = absurd (not_misnumbered s y x ns m (sym e ∙ f.0, f.1) h)
one_ground s fs r q (no_rule x e m b) (no_form g) = absurd (g x _ (ruled s fs x e))
one_ground s fs r q (no_rule x e m b) (no_number y ns g i) = absurd (not_misnumbered s x y ns m (sym e ∙ g.0, g.1) i)
one_ground s fs r q (no_rule x e m b) (no_rule y d n c) = one_break s x r q b (subst (λ z. Breaks s z q) (sym (written_same s x y m n (sym e ∙ d))) c)

kept_at : (h : Heading) (front later : List Command) (c : Command) → AllByRecursion (KeepsLine (Commands h)) (front ++ c ∷ later) → KeepsLine (Commands h) c
kept_at h [] later c k = k.0
kept_at h (d ∷ front) later c k = kept_at h front later c k.1

-- a file that keeps the rules has no line that breaks one
pub no_misfit : (f : File) (e : Fault) → KeepsLines (rowed f) → Misfit f e → ⊥
no_misfit f e k (at_heading n b) = held Map f.heading e.refusal k.0.1 b
no_misfit f e k (at_row n g b) = held (Row f.heading) f.codes e.refusal k.1.1 b
no_misfit f e k (at_command g c s) =
    held (Commands f.heading) s.1 e.refusal (kept_at f.heading s.0 s.2 s.1 (subst (AllByRecursion (KeepsLine (Commands f.heading))) s.3 k.2)).1 s.5
