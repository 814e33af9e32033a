-- The faults of a text, each with its line. Assumes nothing.
use Rattle.std.specs.Prelude.{◌≡◌, ℕ, suc, ◌<◌, ◌≤◌, false, ◌⊎◌, List, [], ◌∷◌, ◌++◌, map, length}
use Rattle.exchange.specs.declared.refusal.Refusal.{Refusal}
use Rattle.exchange.specs.declared.refusal.Refusal.TheVariants.{TooLong, BadForm, BadNumber, BadParameters, NoElement, RowFull}
use Rattle.rowfile.specs.Headings.{lawful_parameters, has_code}
use Rattle.rowfile.specs.Lines.{Bytes, Writes, lines, fields, line_of}
use Rattle.rowfile.specs.Files.{Next, words, numbers, written, swept, Small, Said, stage_of, lines_of, KeepsLines}
use Rattle.rowfile.specs.declared.file.Heading.{Heading}
use Rattle.rowfile.specs.declared.file.Stage.{Stage}
use Rattle.rowfile.specs.declared.file.Stage.TheVariants.{Map, Row, Commands}

-- some element has P
abbrev pub Any : {X : Type 0} → (X → Type 0) → List X → Type 0
Any P [] = ⊥
Any P (x ∷ xs) = P x ⊎ Any P xs

-- the fields fs have the form of the line that says x: its words, and as many fields ns as it has numbers
abbrev pub Form : (s : Stage) → List Bytes → Next s → List Bytes → Type 0
Form s fs x ns = (fs ≡ words s x ++ ns) × (length ns ≡ length (numbers s x))

-- the field writes no number
abbrev pub NoNumber : Bytes → Type 0
NoNumber f = (n : ℕ) → Writes f n → ⊥

-- some number is no code of the map
abbrev pub NoCode : Heading → List ℕ → Type 0
NoCode h ns = Any (λ n. has_code h.map n ≡ false) ns

-- which rule a line breaks that is right in form and numbers
abbrev pub Breaks : (s : Stage) → Next s → Refusal → Type 0
Breaks Map h r = (r ≡ BadParameters) × (lawful_parameters h.map ≡ false)
Breaks (Row h) ns r = ((r ≡ RowFull) × (1024 < length ns)) ⊎ ((r ≡ NoElement) × (length ns ≤ 1024) × NoCode h ns)
Breaks (Commands h) c r = (r ≡ NoElement) × NoCode h (swept c)

-- why a line with the fields fs is faulty
pub data Ground (s : Stage) (fs : List Bytes) : Refusal → Type 0 where
  no_form : ((x : Next s) (ns : List Bytes) → Form s fs x ns → ⊥) → Ground s fs BadForm
  no_number : (x : Next s) (ns : List Bytes) → Form s fs x ns → Any NoNumber ns → Ground s fs BadNumber
  no_rule : {r : Refusal} (x : Next s) → fs ≡ written s x → Small (numbers s x) → Breaks s x r → Ground s fs r

-- whether a text may not end here
abbrev pub Unready : Stage → Type 0
Unready Map = Unit {0}
Unready (Row h) = Unit {0}
Unready (Commands h) = ⊥

-- why the first of the lines that follow is faulty; what follows the last byte 10 counts as one more line
pub data Bad (s : Stage) : List Bytes → Refusal → Type 0 where
  missing : Unready s → Bad s ([] ∷ []) BadForm
  unended : (c : ℕ) (cs : Bytes) → Bad s ((c ∷ cs) ∷ []) BadForm
  faulty : {r : Refusal} (l m : Bytes) (ls : List Bytes) → Ground s (fields l) r → Bad s (l ∷ m ∷ ls) r

-- the first fault of a text: it is too long, or the line that follows s, all of which keeps the rules, is faulty
pub data Faulty (t : Bytes) : ℕ → Refusal → Type 0 where
  too_long : 32768 < length t → Faulty t 0 TooLong
  at_line : {n : ℕ} {r : Refusal} (s : Said) (ls : List Bytes) → length t ≤ 32768 → lines t ≡ map line_of (lines_of s) ++ ls → KeepsLines s → n ≡ suc (length (lines_of s)) → Bad (stage_of s) ls r → Faulty t n r
