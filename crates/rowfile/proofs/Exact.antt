-- A text has one verdict: one file, or one fault. Assumes nothing.
use Rattle.std.proofs.Common.{◌≡◌, ℕ, suc, ◌<◌, List, [], ◌∷◌, ◌++◌, map, length, Ok, Err, Result, sym, refl, ap, ◌∙◌, subst, inl, inr, arith, length-append}
use Rattle.std.specs.List.{AllByRecursion}
use Rattle.std.proofs.lemmas.List.{append_cancel_left}
use Rattle.exchange.specs.declared.refusal.Refusal.{Refusal}
use Rattle.rowfile.specs.Lines.{Bytes, lines, fields, line_of}
use Rattle.rowfile.specs.Files.{File, Next, Said, nothing, headed, rowed, stage_of, lines_of, numbers, Small, written, text_of, KeepsLine, KeepsLines, Keeps}
use Rattle.rowfile.specs.Faults.{Ground, Bad, Faulty}
use Rattle.rowfile.specs.Faults.Bad.{missing, unended, faulty}
use Rattle.rowfile.specs.Faults.Faulty.{too_long, at_line}
use Rattle.rowfile.specs.Reading.{Reads, Gives, Finds, file_of}
use Rattle.rowfile.specs.declared.file.Fault.{Fault}
use Rattle.rowfile.specs.declared.file.ReadError.{ReadError}
use Rattle.rowfile.specs.declared.file.ReadError.TheVariants.{Fault as Faulted, Memory as NoMemory}
use Rattle.rowfile.specs.declared.file.RowFile.{RowFile}
use Rattle.rowfile.specs.declared.file.Command.{Command}
use Rattle.rowfile.specs.declared.file.Heading.{Heading}
use Rattle.rowfile.specs.declared.file.Stage.{Stage}
use Rattle.rowfile.specs.declared.file.Stage.TheVariants.{Map, Row, Commands}
use Rattle.rowfile.proofs.Alike.{written_same}
use Rattle.rowfile.proofs.Free.{fields_written, lines_text}
use Rattle.rowfile.proofs.Verdicts.{no_ground, one_ground}

line_same : (st : Stage) (x y : Next st) → Small (numbers st x) → Small (numbers st y) → line_of (written st x) ≡ line_of (written st y) → x ≡ y
line_same st x y s t e = written_same st x y s t (sym (fields_written st x s) ∙ (ap fields e ∙ fields_written st y t))

-- the first of these lines, if another follows it, does not keep the rules
Stuck : Stage → List Bytes → Type 0
Stuck st ls = (x : Next st) → KeepsLine st x → (us : List Bytes) → 0 < length us → ls ≡ line_of (written st x) ∷ us → ⊥

bad_stuck : (st : Stage) (ls : List Bytes) (r : Refusal) → Bad st ls r → Stuck st ls
unfolding Stuck
bad_stuck st ls r (missing u) x k us n e = omega (arith, ap length e)
bad_stuck st ls r (unended c cs) x k us n e = omega (arith, ap length e)
bad_stuck st ls r (faulty l m vs g) x k us n e =
    let p : l ≡ line_of (written st x) = cc in
    no_ground st x r k (subst (λ fs. Ground st fs r) (ap fields p ∙ fields_written st x k.0) g)

end_stuck : (st : Stage) → Stuck st ([] ∷ [])
unfolding Stuck
end_stuck st x k us n e = omega (arith, ap length e)

bad_some : (st : Stage) (ls : List Bytes) (r : Refusal) → Bad st ls r → 0 < length ls
bad_some st ls r (missing u) = omega arith
bad_some st ls r (unended c cs) = omega arith
bad_some st ls r (faulty l m vs g) = omega arith

more : (xs us : List Bytes) → 0 < length us → 0 < length (xs ++ us)
more xs us n = omega (arith, length-append xs us)

command_lines : Heading → List Command → List Bytes
command_lines h cs = map line_of (map (written (Commands h)) cs)

module _ (h : Heading) (ls us : List Bytes) (a : Stuck (Commands h) ls) (b : Stuck (Commands h) us) (m : 0 < length ls) (n : 0 < length us) where
  same_commands : (cs ds : List Command) → AllByRecursion (KeepsLine (Commands h)) cs → AllByRecursion (KeepsLine (Commands h)) ds → command_lines h cs ++ ls ≡ command_lines h ds ++ us → cs ≡ ds
  unfolding Stuck command_lines
  same_commands [] [] k l e = refl
  same_commands [] (d ∷ ds) k l e = absurd (a d l.0 (command_lines h ds ++ us) (more (command_lines h ds) us n) e)
  same_commands (c ∷ cs) [] k l e = absurd (b c k.0 (command_lines h cs ++ ls) (more (command_lines h cs) ls m) (sym e))
  same_commands (c ∷ cs) (d ∷ ds) k l e =
      let p = line_same (Commands h) c d k.0.0 l.0.0 (cc) in
      let q = same_commands cs ds k.1 l.1 (cc) in
      cc

-- what has been said before such lines is told by the text
same_said : (s t : Said) (ls us : List Bytes) → KeepsLines s → KeepsLines t → Stuck (stage_of s) ls → Stuck (stage_of t) us → 0 < length ls → 0 < length us → map line_of (lines_of s) ++ ls ≡ map line_of (lines_of t) ++ us → s ≡ t
unfolding Stuck command_lines
same_said nothing nothing ls us k l a b m n e = refl
same_said nothing (headed h) ls us k l a b m n e = absurd (a h l us n e)
same_said nothing (rowed g) ls us k l a b m n e = absurd (a g.heading l.0 (line_of (written (Row g.heading) g.codes) ∷ (command_lines g.heading g.commands ++ us)) (omega arith) e)
same_said (headed h) nothing ls us k l a b m n e = absurd (b h k ls m (sym e))
same_said (headed h) (headed i) ls us k l a b m n e = ap headed (line_same Map h i k.0 l.0 (cc))
same_said (headed h) (rowed g) ls us k l a b m n e =
    let p = line_same Map h g.heading k.0 l.0.0 (cc) in
    absurd (a g.codes (subst (λ i. KeepsLine (Row i) g.codes) (sym p) l.1) (command_lines g.heading g.commands ++ us) (more (command_lines g.heading g.commands) us n) (cc))
same_said (rowed f) nothing ls us k l a b m n e = absurd (b f.heading k.0 (line_of (written (Row f.heading) f.codes) ∷ (command_lines f.heading f.commands ++ ls)) (omega arith) (sym e))
same_said (rowed f) (headed i) ls us k l a b m n e =
    let p = line_same Map i f.heading l.0 k.0.0 (cc) in
    absurd (b f.codes (subst (λ j. KeepsLine (Row j) f.codes) (sym p) k.1) (command_lines f.heading f.commands ++ ls) (more (command_lines f.heading f.commands) ls m) (cc))
same_said (rowed f) (rowed g) ls us k l a b m n e =
    let h = f.heading in
    let p = line_same Map h g.heading k.0.0 l.0.0 (cc) in
    let q = line_same (Row h) f.codes g.codes k.1.0 l.1.0 (cc) in
    let b2 = subst (λ i. Stuck (Commands i) us) (sym p) b in
    let lines2 = subst (λ i. AllByRecursion (KeepsLine (Commands i)) g.commands) (sym p) l.2 in
    let c = same_commands h ls us a b2 m n f.commands g.commands k.2 lines2 (cc) in
    ap (λ (x : Heading). rowed (record { heading = x; codes = f.codes; commands = f.commands })) p
    ∙ (ap (λ (x : List ℕ). rowed (record { heading = g.heading; codes = x; commands = f.commands })) q
    ∙ ap (λ (x : List Command). rowed (record { heading = g.heading; codes = g.codes; commands = x })) c)

-- no two files have one text
pub one_text : (f g : File) → Keeps f → Keeps g → text_of f ≡ text_of g → f ≡ g
one_text f g k l e =
    let p = same_said (rowed f) (rowed g) ([] ∷ []) ([] ∷ []) k.0 l.0 (end_stuck (Commands f.heading)) (end_stuck (Commands g.heading)) (omega arith) (omega arith) (sym (lines_text f k.0) ∙ (ap lines e ∙ lines_text g l.0)) in
    cc

bad_end : (h : Heading) (ls : List Bytes) (r : Refusal) → Bad (Commands h) ls r → ls ≡ [] ∷ [] → ⊥
bad_end h ls r (missing u) e = u
bad_end h ls r (unended c cs) e = let z : ◌≡◌ {A = ℕ} 0 1 = cc in omega arith
bad_end h ls r (faulty l m us g) e = omega (arith, ap length e)

-- the text of a file that keeps the rules has no fault
pub no_fault : (f : File) (t : Bytes) (n : ℕ) (r : Refusal) → Keeps f → t ≡ text_of f → Faulty t n r → ⊥
no_fault f t n r k e (too_long l) = omega (arith, k.1, ap length e)
no_fault f t n r k e (at_line s ls short cut kept count bad) =
    let c = sym cut ∙ (ap lines e ∙ lines_text f k.0) in
    let p = same_said s (rowed f) ls ([] ∷ []) kept k.0 (bad_stuck (stage_of s) ls r bad) (end_stuck (Commands f.heading)) (bad_some (stage_of s) ls r bad) (omega arith) c in
    let q = append_cancel_left (map line_of (lines_of (rowed f))) ls ([] ∷ []) (subst (λ u. map line_of (lines_of u) ++ ls ≡ map line_of (lines_of (rowed f)) ++ [] ∷ []) p c) in
    bad_end f.heading ls r (subst (λ u. Bad (stage_of u) ls r) p bad) q

same_bad : (st : Stage) (ls us : List Bytes) (r q : Refusal) → Bad st ls r → Bad st us q → ls ≡ us → r ≡ q
same_bad st ls us r q (missing u) (missing v) e = refl
same_bad st ls us r q (missing u) (unended d ds) e = refl
same_bad st ls us r q (missing u) (faulty l m vs g) e = absurd (omega (arith, ap length e))
same_bad st ls us r q (unended c cs) (missing v) e = refl
same_bad st ls us r q (unended c cs) (unended d ds) e = refl
same_bad st ls us r q (unended c cs) (faulty l m vs g) e = absurd (omega (arith, ap length e))
same_bad st ls us r q (faulty l m vs g) (missing v) e = absurd (omega (arith, ap length e))
same_bad st ls us r q (faulty l m vs g) (unended d ds) e = absurd (omega (arith, ap length e))
same_bad st ls us r q (faulty l m vs g) (faulty k n ws i) e = let p : l ≡ k = cc in one_ground st (fields k) r q (subst (λ b. Ground st (fields b) r) p g) i

-- a text has one fault at most
pub one_fault : (t : Bytes) (n m : ℕ) (r q : Refusal) → Faulty t n r → Faulty t m q → (n ≡ m) × (r ≡ q)
one_fault t n m r q (too_long l) (too_long k) = (refl, refl)
one_fault t n m r q (too_long l) (at_line s ls short cut kept count bad) = absurd (omega arith)
one_fault t n m r q (at_line s ls short cut kept count bad) (too_long k) = absurd (omega arith)
one_fault t n m r q (at_line s ls short cut kept count bad) (at_line u us short2 cut2 kept2 count2 bad2) =
    let c = sym cut ∙ cut2 in
    let p = same_said s u ls us kept kept2 (bad_stuck (stage_of s) ls r bad) (bad_stuck (stage_of u) us q bad2) (bad_some (stage_of s) ls r bad) (bad_some (stage_of u) us q bad2) c in
    let d = append_cancel_left (map line_of (lines_of u)) ls us (subst (λ v. map line_of (lines_of v) ++ ls ≡ map line_of (lines_of u) ++ us) p c) in
    (count ∙ (ap (λ v. suc (length (lines_of v))) p ∙ sym count2), same_bad (stage_of u) ls us r q (subst (λ v. Bad (stage_of v) ls r) p bad) bad2 d)

-- what is answered is told by the text alone, want of memory apart
pub only_file : (t : Bytes) (r : Result RowFile ReadError) → Reads t r → (f : File) → Keeps f → t ≡ text_of f → Gives f r
only_file t (Ok g) h f k e = one_text (file_of g) f h.0 k (sym h.1 ∙ e)
only_file t (Err (Faulted x)) h f k e = absurd (no_fault f t x.line x.refusal k e h)
only_file t (Err NoMemory) h f k e = refl

pub only_fault : (t : Bytes) (r : Result RowFile ReadError) → Reads t r → (n : ℕ) (q : Refusal) → Faulty t n q → Finds n q r
only_fault t (Ok g) h n q b = no_fault (file_of g) t n q h.0 h.1 b
only_fault t (Err (Faulted x)) h n q b =
    let p = one_fault t x.line n x.refusal q h b in
    inl (ap (λ (i : ℕ). let y : Fault = record { line = i; refusal = x.refusal } in Faulted y) p.0 ∙ ap (λ (i : Refusal). let y : Fault = record { line = n; refusal = i } in Faulted y) p.1)
only_fault t (Err NoMemory) h n q b = inr refl
