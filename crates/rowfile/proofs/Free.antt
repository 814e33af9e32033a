-- Parts without the mark, and the bytes made of them cut again. Assumes nothing.
use Rattle.std.proofs.Common.{◌≡◌, ℕ, ◌<◌, Bool, true, ◌&&◌, eqb, leb, List, [], ◌∷◌, ◌++◌, map, codes as bytes, decimal, refl, ap, ◌∙◌, arith}
use Rattle.std.specs.List.{AllByRecursion}
use Rattle.std.proofs.ByRecursion.{All-append}
use Rattle.std.proofs.lemmas.List.{append-nil}
use Rattle.std.proofs.lemmas.Str.Parse.{tells_digits}
use Rattle.std.proofs.lemmas.Bool.{eq-eqb, ne_eqb, cond-true, cond-false, and_parts, leb-true}
use Rattle.std.specs.Str.Parse.{AllDigits}
use Rattle.rowfile.specs.Lines.{Bytes, parts, grown, led, parted, ended, lines, fields, line_of}
use Rattle.rowfile.specs.Files.{File, Small, side_word, name_word, letter, words, numbers, written, Next, rowed, lines_of, text_of, KeepsLine, KeepsLines}
use Rattle.rowfile.proofs.Numbers.{written_digits}
use Rattle.rowfile.specs.declared.file.Side.{Side}
use Rattle.rowfile.specs.declared.file.Side.TheVariants.{Left, Right}
use Rattle.rowfile.specs.declared.file.MapName.{MapName}
use Rattle.rowfile.specs.declared.file.MapName.TheVariants.{Cap, Perm, Aff, Phase}
use Rattle.rowfile.specs.declared.file.Command.{Command}
use Rattle.rowfile.specs.declared.file.Command.TheVariants.{Sweep, Exchange, ExchangeBack, Raise, TakeBack, Print}
use Rattle.rowfile.specs.declared.file.Heading.{Heading}
use Rattle.rowfile.specs.declared.file.Stage.{Stage}
use Rattle.rowfile.specs.declared.file.Stage.TheVariants.{Map, Row, Commands}

-- no byte is s
abbrev pub Free : ℕ → Bytes → Type 0
Free s bs = AllByRecursion (λ c. c ≡ s → ⊥) bs

parts_free : (s : ℕ) (bs : Bytes) → Free s bs → parts s bs ≡ bs ∷ []
parts_free s [] f = refl
parts_free s (c ∷ cs) f = cond-false (eqb c s) _ _ (ne_eqb c s f.0) ∙ ap (grown c) (parts_free s cs f.1)

parts_mark : (s : ℕ) (bs rest : Bytes) → Free s bs → parts s (bs ++ (s ∷ rest)) ≡ bs ∷ parts s rest
parts_mark s [] rest f = cond-true (eqb s s) _ _ (eq-eqb s s refl)
parts_mark s (c ∷ cs) rest f = cond-false (eqb c s) _ _ (ne_eqb c s f.0) ∙ ap (grown c) (parts_mark s cs rest f.1)

-- parts, put together, are cut into the same parts
pub parts_parted : (s : ℕ) (p : Bytes) (ps : List Bytes) → AllByRecursion (Free s) (p ∷ ps) → parts s (parted s (p ∷ ps)) ≡ p ∷ ps
parts_parted s p [] f = ap (parts s) (append-nil p) ∙ parts_free s p f.0
parts_parted s p (q ∷ ps) f = parts_mark s p (parted s (q ∷ ps)) f.0 ∙ ap (λ l. p ∷ l) (parts_parted s q ps f.1)

pub parts_ended : (ls : List Bytes) → AllByRecursion (Free 10) ls → parts 10 (ended ls) ≡ ls ++ [] ∷ []
parts_ended [] f = refl
parts_ended (l ∷ ls) f = parts_mark 10 l (ended ls) f.0 ∙ ap (λ k. l ∷ k) (parts_ended ls f.1)

-- digits are no marks
digits_free : (s : ℕ) (cs : Bytes) → s < 48 → AllDigits 10 cs → Free s cs
digits_free s [] l e = tt
digits_free s (c ∷ cs) l e = let p = tells_digits.parts c cs e in (λ q. omega (arith, p.0.0), digits_free s cs l p.1)

decimals_free : (s : ℕ) (ns : List ℕ) → s < 48 → Small ns → AllByRecursion (Free s) (map decimal ns)
decimals_free s [] l m = tt
decimals_free s (n ∷ ns) l m = (digits_free s (decimal n) l (written_digits (decimal n) n (m.0, refl)), decimals_free s ns l m.1)

-- words of bytes from 48 on
above : Bytes → Bool
above [] = true
above (c ∷ cs) = leb 48 c && above cs

above_free : (s : ℕ) (bs : Bytes) → s < 48 → above bs ≡ true → Free s bs
unfolding above
above_free s [] l e = tt
above_free s (c ∷ cs) l e = let p = and_parts (leb 48 c) (above cs) e in (λ q. omega (arith, leb-true 48 c p.0), above_free s cs l p.1)

side_above : (s : Side) → above (side_word s) ≡ true
unfolding above
side_above Left = refl
side_above Right = refl

name_above : (m : MapName) → above (name_word m) ≡ true
unfolding above
name_above Cap = refl
name_above Perm = refl
name_above (Aff m a b c d) = refl
name_above (Phase m) = refl

letter_above : (c : Command) → above (letter c) ≡ true
unfolding above
letter_above (Sweep n) = refl
letter_above (Exchange n) = refl
letter_above (ExchangeBack n) = refl
letter_above (Raise n) = refl
letter_above TakeBack = refl
letter_above Print = refl

words_free : (s : ℕ) (st : Stage) (x : Next st) → s < 48 → AllByRecursion (Free s) (words st x)
unfolding above
words_free s Map h l = (above_free s (bytes "map") l refl, (above_free s (side_word h.side) l (side_above h.side), (above_free s (name_word h.map) l (name_above h.map), tt)))
words_free s (Row h) ns l = (above_free s (bytes "row") l refl, tt)
words_free s (Commands h) c l = (above_free s (letter c) l (letter_above c), tt)

written_free : (s : ℕ) (st : Stage) (x : Next st) → s < 48 → Small (numbers st x) → AllByRecursion (Free s) (written st x)
written_free s st x l m = All-append (Free s) (words st x) (map decimal (numbers st x)) (words_free s st x l) (decimals_free s (numbers st x) l m)

-- a line is cut into the fields that it was made of
pub fields_written : (st : Stage) (x : Next st) → Small (numbers st x) → fields (line_of (written st x)) ≡ written st x
fields_written Map h m = parts_parted 9 _ _ (written_free 9 Map h (omega arith) m)
fields_written (Row h) ns m = parts_parted 9 _ _ (written_free 9 (Row h) ns (omega arith) m)
fields_written (Commands h) c m = parts_parted 9 _ _ (written_free 9 (Commands h) c (omega arith) m)

led_free : (s t : ℕ) (ps : List Bytes) → (t ≡ s → ⊥) → AllByRecursion (Free s) ps → Free s (led t ps)
led_free s t [] n f = tt
led_free s t (p ∷ ps) n f = (n, All-append (λ c. c ≡ s → ⊥) p (led t ps) f.0 (led_free s t ps n f.1))

line_free : (ps : List Bytes) → AllByRecursion (Free 10) ps → Free 10 (line_of ps)
line_free [] f = tt
line_free (p ∷ ps) f = All-append (λ c. c ≡ 10 → ⊥) p (led 9 ps) f.0 (led_free 10 9 ps (λ e. omega arith) f.1)

line_free_written : (st : Stage) (x : Next st) → Small (numbers st x) → Free 10 (line_of (written st x))
line_free_written st x m = line_free (written st x) (written_free 10 st x (omega arith) m)

commands_free : (h : Heading) (cs : List Command) → AllByRecursion (KeepsLine (Commands h)) cs → AllByRecursion (Free 10) (map line_of (map (written (Commands h)) cs))
commands_free h [] k = tt
commands_free h (c ∷ cs) k = (line_free_written (Commands h) c k.0.0, commands_free h cs k.1)

-- a text is cut into the lines that it was made of
pub lines_text : (f : File) → KeepsLines (rowed f) → lines (text_of f) ≡ map line_of (lines_of (rowed f)) ++ [] ∷ []
lines_text f k =
    let h = f.heading in
    parts_ended (map line_of (lines_of (rowed f))) (line_free_written Map h k.0.0, (line_free_written (Row h) f.codes k.1.0, commands_free h f.commands k.2))
