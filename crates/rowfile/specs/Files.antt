-- What the lines of a row file say, and the bytes that say it. Assumes nothing.
use Rattle.std.specs.Prelude.{ℕ, ◌^◌, ◌<◌, ◌≤◌, T, List, [], ◌∷◌, ◌++◌, map, length, codes as bytes, decimal}
use Rattle.std.specs.List.{AllByRecursion}
use Rattle.rowfile.specs.Headings.{lawful_parameters, has_code}
use Rattle.rowfile.specs.Lines.{Bytes, line_of, ended}
use Rattle.rowfile.specs.declared.file.Side.{Side}
use Rattle.rowfile.specs.declared.file.Side.TheVariants.{Left, Right}
use Rattle.rowfile.specs.declared.file.MapName.{MapName}
use Rattle.rowfile.specs.declared.file.MapName.TheVariants.{Cap, Perm, Aff, Phase}
use Rattle.rowfile.specs.declared.file.Heading.{Heading}
use Rattle.rowfile.specs.declared.file.Command.{Command}
use Rattle.rowfile.specs.declared.file.Command.TheVariants.{Sweep, Exchange, ExchangeBack, Raise, TakeBack, Print}
use Rattle.rowfile.specs.declared.file.Stage.{Stage}
use Rattle.rowfile.specs.declared.file.Stage.TheVariants.{Map, Row, Commands}

-- what the next line says: a heading, codes or a command
abbrev pub Next : Stage → Type 0
Next Map = Heading
Next (Row h) = List ℕ
Next (Commands h) = Command

abbrev pub side_word : Side → Bytes
side_word Left = bytes "L"
side_word Right = bytes "R"

abbrev pub name_word : MapName → Bytes
name_word Cap = bytes "cap"
name_word Perm = bytes "perm"
name_word (Aff m a b c d) = bytes "aff"
name_word (Phase m) = bytes "phase"

abbrev pub letter : Command → Bytes
letter (Sweep n) = bytes "S"
letter (Exchange n) = bytes "X"
letter (ExchangeBack n) = bytes "Y"
letter (Raise n) = bytes "N"
letter TakeBack = bytes "B"
letter Print = bytes "P"

-- the words that open a line
abbrev pub words : (s : Stage) → Next s → List Bytes
words Map h = bytes "map" ∷ side_word h.side ∷ name_word h.map ∷ []
words (Row h) ns = bytes "row" ∷ []
words (Commands h) c = letter c ∷ []

abbrev pub parameters : MapName → List ℕ
parameters Cap = []
parameters Perm = []
parameters (Aff m a b c d) = m ∷ a ∷ b ∷ c ∷ d ∷ []
parameters (Phase m) = m ∷ []

abbrev pub argument : Command → List ℕ
argument (Sweep n) = n ∷ []
argument (Exchange n) = n ∷ []
argument (ExchangeBack n) = n ∷ []
argument (Raise n) = n ∷ []
argument TakeBack = []
argument Print = []

-- the numbers that follow the words
abbrev pub numbers : (s : Stage) → Next s → List ℕ
numbers Map h = parameters h.map
numbers (Row h) ns = ns
numbers (Commands h) c = argument c

-- the fields of a line
abbrev pub written : (s : Stage) → Next s → List Bytes
written s x = words s x ++ map decimal (numbers s x)

-- the code in a command
abbrev pub swept : Command → List ℕ
swept (Sweep n) = n ∷ []
swept (Exchange n) = []
swept (ExchangeBack n) = []
swept (Raise n) = []
swept TakeBack = []
swept Print = []

abbrev pub Codes : Heading → List ℕ → Type 0
Codes h ns = AllByRecursion (λ n. T (has_code h.map n)) ns

-- the rules for parameters, the count of codes and codes
abbrev pub Holds : (s : Stage) → Next s → Type 0
Holds Map h = T (lawful_parameters h.map)
Holds (Row h) ns = (length ns ≤ 1024) × Codes h ns
Holds (Commands h) c = Codes h (swept c)

-- every number fits
abbrev pub Small : List ℕ → Type 0
Small ns = AllByRecursion (λ n. n < 2 ^ 32) ns

-- what a line may say
abbrev pub KeepsLine : (s : Stage) → Next s → Type 0
KeepsLine s x = Small (numbers s x) × Holds s x

pub record File : Type 0 where
  pub heading : Heading
  pub codes : List ℕ
  pub commands : List Command

-- what the lines read so far say
pub data Said : Type 0 where
  nothing : Said
  headed : Heading → Said
  rowed : File → Said

abbrev pub stage_of : Said → Stage
stage_of nothing = Map
stage_of (headed h) = Row h
stage_of (rowed f) = Commands f.heading

-- the lines that say it, each as its fields
abbrev pub lines_of : Said → List (List Bytes)
lines_of nothing = []
lines_of (headed h) = written Map h ∷ []
lines_of (rowed f) = written Map f.heading ∷ written (Row f.heading) f.codes ∷ map (written (Commands f.heading)) f.commands

abbrev pub KeepsLines : Said → Type 0
KeepsLines nothing = Unit {0}
KeepsLines (headed h) = KeepsLine Map h
KeepsLines (rowed f) = KeepsLine Map f.heading × KeepsLine (Row f.heading) f.codes × AllByRecursion (KeepsLine (Commands f.heading)) f.commands

-- the text of a file
abbrev pub text_of : File → Bytes
text_of f = ended (map line_of (lines_of (rowed f)))

-- the rules of the format
abbrev pub Keeps : File → Type 0
Keeps f = KeepsLines (rowed f) × (length (text_of f) ≤ 32768)
