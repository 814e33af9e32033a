-- What the writer makes of a file. Assumes nothing.
use Rattle.std.specs.Prelude.{◌≡◌, ℕ, ◌+◌, ◌<◌, ◌≤◌, min, ◌⊎◌, List, [], ◌∷◌, ◌++◌, map, length, drop, decimal, Result, MatchResult, slice_set}
use Rattle.std.specs.List.{AllByRecursion}
use Rattle.exchange.specs.declared.refusal.Refusal.TheVariants.{TooLong}
use Rattle.rowfile.specs.Lines.{Bytes, line_of, ended}
use Rattle.rowfile.specs.Files.{File, rowed, letter, argument, text_of, KeepsLine, KeepsLines, Keeps}
use Rattle.rowfile.specs.Faults.{Breaks}
use Rattle.rowfile.specs.declared.file.Command.{Command}
use Rattle.rowfile.specs.declared.file.Fault.{Fault}
use Rattle.rowfile.specs.declared.file.Heading.{Heading}
use Rattle.rowfile.specs.declared.writer.Contents.{Contents}
use Rattle.rowfile.specs.declared.writer.Sink.{Sink}
use Rattle.rowfile.specs.declared.file.Stage.TheVariants.{Map, Row, Commands}

abbrev pub filed : Heading → List ℕ → List Command → File
filed h ns cs = record { heading = h; codes = ns; commands = cs }

abbrev pub file_in : Contents → File
file_in c = filed c.heading c.codes.now c.commands.now

-- the line of the command at a place, as far as a fault can name it
abbrev pub line_number : ℕ → ℕ
line_number place = min (place + 3) 4294967295

-- the first of the commands that breaks a rule
abbrev pub Strays : Heading → List Command → Fault → Type 0
Strays h cs e =
    (front : List Command) × (c : Command) × (later : List Command)
    × (cs ≡ front ++ c ∷ later) × AllByRecursion (KeepsLine (Commands h)) front × Breaks (Commands h) c e.refusal × (e.line ≡ line_number (length front))

-- the first line of a file that breaks a rule
pub data Misfit (f : File) (e : Fault) : Type 0 where
  at_heading : e.line ≡ 1 → Breaks Map f.heading e.refusal → Misfit f e
  at_row : e.line ≡ 2 → KeepsLine Map f.heading → Breaks (Row f.heading) f.codes e.refusal → Misfit f e
  at_command : KeepsLine Map f.heading → KeepsLine (Row f.heading) f.codes → Strays f.heading f.commands e → Misfit f e

-- memory with bytes written from a place on, as far as there is room
abbrev pub laid : Bytes → ℕ → Bytes → Bytes
laid out at [] = out
laid out at (b ∷ bs) = laid (slice_set out at b) (at + 1) bs

-- the bytes are laid from a place on, and r is the place behind them
abbrev pub Lays : Bytes → ℕ → Bytes → Bytes → ℕ → Type 0
Lays out at bs after r = (after ≡ laid out at bs) × (r ≡ at + length bs)

-- the bytes are laid from the sink's place on, in the same memory
pub record Appends (s : Sink) (bs : Bytes) (t : Sink) : Type 0 where
  pub same : t.out.ghost_name ≡ s.out.ghost_name
  pub lays : Lays s.out.now s.at bs t.out.now t.at

abbrev pub command_line : Command → Bytes
command_line c = line_of (letter c ∷ map decimal (argument c))

abbrev pub commands_text : List Command → Bytes
commands_text cs = ended (map command_line cs)

-- why a file is not written: by its first fault, or since its text is longer than allowed or than the room
pub data Unwritten (f : File) (room : ℕ) (e : Fault) : Type 0 where
  misfit : Misfit f e → Unwritten f room e
  no_room : KeepsLines (rowed f) → (32768 < length (text_of f)) ⊎ (room < length (text_of f)) → e.line ≡ 0 → e.refusal ≡ TooLong → Unwritten f room e

-- what is written of a file, and what the memory holds afterwards
abbrev pub WritesFile : File → Bytes → Result ℕ Fault → Bytes → Type 0
WritesFile f out r after =
    MatchResult r
    (λ n. Keeps f × (n ≡ length (text_of f)) × (n ≤ length out) × (after ≡ text_of f ++ drop n out))
    (λ e. Unwritten f (length out) e × (after ≡ out))
