-- What the reader answers of a text. Assumes nothing.
use Rattle.std.specs.Prelude.{◌≡◌, ℕ, ◌⊎◌, [], ◌∷◌, codes as bytes, decimal, vec_items, Result, MatchResult}
use Rattle.exchange.specs.declared.refusal.Refusal.{Refusal}
use Rattle.exchange.specs.Refusals.{number_of}
use Rattle.rowfile.specs.Lines.{Bytes, line_of}
use Rattle.rowfile.specs.Files.{File, Keeps, text_of}
use Rattle.rowfile.specs.Faults.{Faulty}
use Rattle.rowfile.specs.declared.file.Fault.{Fault}
use Rattle.rowfile.specs.declared.file.ReadError.{ReadError}
use Rattle.rowfile.specs.declared.file.ReadError.TheVariants.{Fault as Faulted, Memory as NoMemory}
use Rattle.rowfile.specs.declared.file.RowFile.{RowFile}

abbrev pub file_of : RowFile → File
file_of f = record { heading = f.heading; codes = vec_items f.codes; commands = vec_items f.commands }

-- why the text t is not read
abbrev pub Refuses : Bytes → ReadError → Type 0
Refuses t (Faulted f) = Faulty t f.line f.refusal
Refuses t NoMemory = Unit {0}

-- the file that the text t says, or why it is not read
abbrev pub Reads : Bytes → Result RowFile ReadError → Type 0
Reads t r = MatchResult r (λ f. Keeps (file_of f) × (t ≡ text_of (file_of f))) (Refuses t)

-- the answer is f, want of memory apart
abbrev pub Gives : File → Result RowFile ReadError → Type 0
Gives f r = MatchResult r (λ g. file_of g ≡ f) (λ e. e ≡ NoMemory)

-- the answer is this fault, want of memory apart
abbrev pub Finds : ℕ → Refusal → Result RowFile ReadError → Type 0
Finds n q r = MatchResult r (λ _. ⊥) (λ e. (e ≡ Faulted (record { line = n; refusal = q })) ⊎ (e ≡ NoMemory))

-- the text of a file that keeps the rules is read as that file
abbrev pub Accepts : Bytes → Result RowFile ReadError → Type 0
Accepts t r = (f : File) → Keeps f → t ≡ text_of f → Gives f r

-- a faulty text is refused by its fault
abbrev pub Rejects : Bytes → Result RowFile ReadError → Type 0
Rejects t r = (n : ℕ) (q : Refusal) → Faulty t n q → Finds n q r

-- the line that tells a fault, without its byte 10
abbrev pub fault_line : Fault → Bytes
fault_line f = line_of (bytes "!" ∷ decimal f.line ∷ decimal (number_of f.refusal) ∷ [])
