-- What the readers of one line answer. Assumes nothing.
use Rattle.std.specs.Prelude.{◌≡◌, ℕ, ◌⊎◌, List, [], ◌∷◌, map, length, vec_items, codes as bytes, decimal, Result, Vec, MatchResult, ◌≢◌}
use Rattle.std.specs.declared.alloc.Global.{Global}
use Rattle.exchange.specs.declared.refusal.Refusal.{Refusal}
use Rattle.exchange.specs.declared.refusal.Refusal.TheVariants.{BadForm, BadNumber}
use Rattle.rowfile.specs.Lines.{Bytes, behind, fields}
use Rattle.rowfile.specs.Files.{Next, name_word, parameters, written, Small, KeepsLine}
use Rattle.rowfile.specs.declared.file.MapName.{MapName}
use Rattle.rowfile.specs.declared.file.Heading.{Heading}
use Rattle.rowfile.specs.declared.fields.Fields.{Fields}
use Rattle.rowfile.specs.declared.lines.Record.{Record}
use Rattle.rowfile.specs.declared.lines.Record.TheVariants.{Map as RecordAsMap, Row as RecordAsRow, Command as RecordAsCommand}
use Rattle.rowfile.specs.declared.lines.LineError.{LineError}
use Rattle.rowfile.specs.declared.lines.LineError.TheVariants.{Refused, Memory}
use Rattle.rowfile.specs.declared.file.Stage.{Stage}
use Rattle.rowfile.specs.declared.file.Stage.TheVariants.{Map, Row, Commands}
use Rattle.rowfile.specs.Faults.{Any, NoNumber, Ground}

-- the fields that are left
abbrev pub fields_of : Fields → List Bytes
fields_of f = behind 9 f.bytes.now

-- n fields that are to be numbers: they are not n, or some is no number
abbrev pub Misses : ℕ → List Bytes → Refusal → Type 0
Misses n fs r = ((r ≡ BadForm) × (length fs ≢ n)) ⊎ ((r ≡ BadNumber) × (length fs ≡ n) × Any NoNumber fs)

-- the n numbers that the fields write
abbrev pub ReadsNumbers : ℕ → List Bytes → Result (List ℕ) Refusal → Type 0
ReadsNumbers n fs r = MatchResult r (λ ns. (fs ≡ map decimal ns) × Small ns × (length ns ≡ n)) (Misses n fs)

-- the fields write n numbers
abbrev pub WritesAll : List Bytes → ℕ → Type 0
WritesAll fs n = (ns : List ℕ) × (fs ≡ map decimal ns) × Small ns × (length ns ≡ n)

-- a name and fields that are no map's, or some of the fields is no number
abbrev pub Misnamed : Bytes → List Bytes → Refusal → Type 0
Misnamed w fs r =
    ((r ≡ BadForm) × ((m : MapName) → w ≡ name_word m → length fs ≢ length (parameters m)))
    ⊎ ((r ≡ BadNumber) × ((m : MapName) × (w ≡ name_word m) × (length fs ≡ length (parameters m)) × Any NoNumber fs))

-- the map of a name with the parameters that the fields write, its own rule apart
abbrev pub Named : Bytes → List Bytes → Result MapName Refusal → Type 0
Named w fs r = MatchResult r (λ m. (w ≡ name_word m) × (fs ≡ map decimal (parameters m)) × Small (parameters m)) (Misnamed w fs)

-- what a line with the fields fs says, or why it is faulty
abbrev pub Judged : (s : Stage) → List Bytes → Result (Next s) Refusal → Type 0
Judged s fs r = MatchResult r (λ x. (fs ≡ written s x) × KeepsLine s x) (Ground s fs)

-- the record holds the stage and the fields of the line, and its place
abbrev pub IsRecord : Stage → Bytes → ℕ → ℕ → Record → Type 0
IsRecord s b n o (RecordAsMap fs line offset) = (s ≡ Map) × (fields b ≡ bytes "map" ∷ fields_of fs) × (line ≡ n) × (offset ≡ o)
IsRecord s b n o (RecordAsRow h fs line offset) = (s ≡ Row h) × (fields b ≡ bytes "row" ∷ fields_of fs) × (line ≡ n) × (offset ≡ o)
IsRecord s b n o (RecordAsCommand h letter fs line offset) = (s ≡ Commands h) × (fields b ≡ (letter ∷ []) ∷ fields_of fs) × (line ≡ n) × (offset ≡ o)

-- the record that the line b is, or why it is none
abbrev pub Recorded : Stage → Bytes → ℕ → ℕ → Result Record Refusal → Type 0
Recorded s b n o r = MatchResult r (IsRecord s b n o) (Ground s (fields b))

-- why a line is not read
abbrev pub Unread : Stage → List Bytes → LineError → Type 0
Unread s fs (Refused r) = Ground s fs r
Unread s fs Memory = Unit {0}

-- the codes that a row line says, or why it is not read
abbrev pub JudgedRow : Heading → List Bytes → Result (Vec ℕ Global) LineError → Type 0
JudgedRow h fs r = MatchResult r (λ v. (fs ≡ written (Row h) (vec_items v)) × KeepsLine (Row h) (vec_items v)) (Unread (Row h) fs)
