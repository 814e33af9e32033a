-- A session in the midst of its commands. Assumes nothing.
use Rattle.std.specs.Prelude.{◌≡◌, ℕ, ◌≤◌, Bool, T, List, [], ◌++◌, map, length}
use Rattle.std.specs.List.{AllByRecursion}
use Rattle.exchange.specs.Meaning.{Meaning}
use Rattle.runs.specs.Calls.{Held, view}
use Rattle.runs.specs.Runs.{Run, Said}
use Rattle.bench.specs.declared.bench.Filling.{Filling}
use Rattle.rowfile.specs.Lines.{Bytes}
use Rattle.rowfile.specs.declared.file.Command.{Command}
use Rattle.session.specs.Played.{Plays, Says, printed}

-- a run from the filled row has come to the memory h, with the incoming carriers xs
pub record Playing {E : Type 0} (m : Meaning E) (filled : List E) (h : Held E) (xs : List E) : Type 0 where
  pub calls : List (Said E)
  pub run : Run m filled calls (view h)
  pub log : xs ≡ (view h).incoming
  pub boxes_are : h.boxes ≡ length filled
  pub row_long : length h.row ≡ length filled
  pub incoming_long : length h.incoming ≡ 256
  pub outgoing_long : length h.outgoing ≡ 256
  pub sweeps_fit : h.sweeps ≤ 256

-- a command takes the session on and writes its line
abbrev pub Steps : {E : Type 0} → Meaning E → Bool → Command → Held E → Bytes → Held E → Bytes → Type 0
Steps {E = E} m returning command h out h' out' =
    (filled xs : List E) → Playing m filled h xs →
    (ys : List E) × (fs : List Bytes) × Says m returning filled command xs ys fs × Playing m filled h' ys × (out' ≡ out ++ printed fs)

-- commands, from an empty log on, write their lines
abbrev pub RunsOn : {E : Type 0} → Meaning E → Bool → List Command → Held E → Bytes → Bytes → Type 0
RunsOn {E = E} m returning commands h out out' =
    (filled : List E) → Playing m filled h [] → (lines : Bytes) × Plays m returning filled [] commands lines × (out' ≡ out ++ lines)

-- codes that a row may have: each is one, and there are at most 1,024
abbrev pub Rowed : {E : Type 0} → Meaning E → List ℕ → Type 0
Rowed m codes = AllByRecursion (λ n. T (m.elements.codes n)) codes × (length codes ≤ 1024)

-- a row of as many places is filled with the elements of its codes
abbrev pub Fills : {E : Type 0} → Meaning E → List ℕ → List E → Filling → List E → Type 0
Fills m codes row b row' = Rowed m codes → length row ≡ length codes → (b.boxes ≡ length codes) × (row' ≡ map m.elements.element codes)
