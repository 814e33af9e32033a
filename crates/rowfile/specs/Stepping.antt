-- What the reader makes of one line after another. Assumes nothing.
use Rattle.std.specs.Prelude.{◌≡◌, ℕ, List, [], ◌∷◌, ◌++◌, vec_items, Result, MatchResult}
use Rattle.exchange.specs.declared.refusal.Refusal.{Refusal}
use Rattle.exchange.specs.declared.refusal.Refusal.TheVariants.{BadForm}
use Rattle.rowfile.specs.Lines.{Bytes}
use Rattle.rowfile.specs.Files.{Said, nothing, headed, rowed, KeepsLine, written}
use Rattle.rowfile.specs.Faults.{Unready}
use Rattle.rowfile.specs.Judging.{Unread}
use Rattle.rowfile.specs.declared.file.Command.{Command}
use Rattle.rowfile.specs.declared.file.Heading.{Heading}
use Rattle.rowfile.specs.declared.file.ReadError.{ReadError}
use Rattle.rowfile.specs.declared.file.ReadError.TheVariants.{Fault as Faulted, Memory as NoMemory}
use Rattle.rowfile.specs.declared.file.RowFile.{RowFile}
use Rattle.rowfile.specs.declared.file.Stage.{Stage}
use Rattle.rowfile.specs.declared.file.Stage.TheVariants.{Map, Row, Commands}
use Rattle.rowfile.specs.declared.lines.LineError.{LineError}
use Rattle.rowfile.specs.declared.lines.LineError.TheVariants.{Refused, Memory}
use Rattle.rowfile.specs.declared.reader.Reader.{Reader}
use Rattle.rowfile.specs.Reading.{file_of}

-- the error of a line, with its number
abbrev pub place : ℕ → LineError → ReadError
place n (Refused r) = Faulted (record { line = n; refusal = r })
place n Memory = NoMemory

-- what a reader has been told
abbrev pub so_far : Stage → List ℕ → List Command → Said
so_far Map ns cs = nothing
so_far (Row h) ns cs = headed h
so_far (Commands h) ns cs = rowed (record { heading = h; codes = ns; commands = cs })

abbrev pub said : Reader → Said
said r = so_far r.stage (vec_items r.codes) (vec_items r.commands)

-- no command stands before its turn
abbrev pub Waits : Stage → List Command → Type 0
Waits Map cs = cs ≡ []
Waits (Row h) cs = cs ≡ []
Waits (Commands h) cs = Unit {0}

abbrev pub Ready : Reader → Type 0
Ready r = Waits r.stage (vec_items r.commands)

-- t is what has been said after s and one more line, of the fields fs, that keeps the rules
abbrev pub Follows : Said → List Bytes → Said → Type 0
Follows nothing fs t = (h : Heading) × (fs ≡ written Map h) × KeepsLine Map h × (t ≡ headed h)
Follows (headed h) fs t = (ns : List ℕ) × (fs ≡ written (Row h) ns) × KeepsLine (Row h) ns × (t ≡ rowed (record { heading = h; codes = ns; commands = [] }))
Follows (rowed f) fs t = (c : Command) × (fs ≡ written (Commands f.heading) c) × KeepsLine (Commands f.heading) c × (t ≡ rowed (record { heading = f.heading; codes = f.codes; commands = f.commands ++ c ∷ [] }))

-- what a reader makes of one more line
abbrev pub Takes : Reader → List Bytes → Result (Unit {0}) LineError → Reader → Type 0
Takes s fs r t = Ready s → MatchResult r (λ _. Follows (said s) fs (said t) × Ready t) (Unread s.stage fs)

-- what a reader answers where the text ends
abbrev pub Ends : Reader → Result RowFile Refusal → Type 0
Ends s r = MatchResult r (λ f. said s ≡ rowed (file_of f)) (λ e. Unready s.stage × (e ≡ BadForm))
