-- What a session prints, by the plain book. Assumes nothing.
use Rattle.std.specs.Prelude.{◌≡◌, ℕ, Bool, true, false, List, [], ◌∷◌, ◌++◌, map, length, codes as bytes, decimal, Result, Ok, Err}
use Rattle.exchange.specs.Meaning.{Meaning}
use Rattle.exchange.specs.Layers.{mirror}
use Rattle.exchange.specs.Refusals.{number_of}
use Rattle.exchange.specs.declared.refusal.Refusal.{Refusal}
use Rattle.exchange.specs.declared.refusal.Refusal.TheVariants.{NotReturning}
use Rattle.maps.specs.Affine.{affine_map}
use Rattle.maps.specs.Capacity.{capacity_map}
use Rattle.maps.specs.Permutations.{perm_map}
use Rattle.maps.specs.Phases.{phase_map}
use Rattle.runs.specs.Book.{Answer, Call, Lengths, Outcome, code, codes, done, exchange, raise, refused, sweep, take_back}
use Rattle.runs.specs.Calls.{Does, Held}
use Rattle.runs.specs.Exchanges.{back, forth}
use Rattle.runs.specs.Sweeps.{made}
use Rattle.rowfile.specs.Faults.{Faulty}
use Rattle.rowfile.specs.Files.{File, Keeps, text_of}
use Rattle.rowfile.specs.Lines.{Bytes, line_of}
use Rattle.rowfile.specs.declared.file.Command.{Command}
use Rattle.rowfile.specs.declared.file.Command.TheVariants.{Sweep, Exchange, ExchangeBack, Raise, TakeBack, Print}
use Rattle.rowfile.specs.declared.file.MapName.{MapName}
use Rattle.rowfile.specs.declared.file.MapName.TheVariants.{Cap, Perm, Aff, Phase}
use Rattle.rowfile.specs.declared.file.Side.{Side}
use Rattle.rowfile.specs.declared.file.Side.TheVariants.{Left, Right}

-- a printed line of these fields
abbrev pub printed : List Bytes → Bytes
printed fs = line_of fs ++ (10 ∷ [])

abbrev pub refusal_fields : Refusal → List Bytes
refusal_fields r = bytes "?" ∷ decimal (number_of r) ∷ []

abbrev pub fault_fields : ℕ → Refusal → List Bytes
fault_fields line r = bytes "!" ∷ decimal line ∷ decimal (number_of r) ∷ []

-- the codes of elements
abbrev pub code_fields : {E : Type 0} → Meaning E → List E → List Bytes
code_fields m xs = map (λ x. decimal (m.elements.code x)) xs

-- an answer behind the letter of its command; where there is nothing to answer, all the codes of the log
abbrev pub answer_fields : Bytes → List Bytes → Answer → List Bytes
answer_fields letter all (refused r) = refusal_fields r
answer_fields letter all (code n) = letter ∷ decimal n ∷ []
answer_fields letter all (codes i j) = letter ∷ decimal i ∷ decimal j ∷ []
answer_fields letter all done = letter ∷ all

-- the codes of what was answered behind the letter of its command, or the refusal
abbrev pub coded_fields : {A : Type 0} → (A → List ℕ) → Bytes → Result A Refusal → List Bytes
coded_fields codes_of letter (Ok x) = letter ∷ map decimal (codes_of x)
coded_fields codes_of letter (Err r) = refusal_fields r

-- the memory of a session: a row of as many places as boxes, and a log of 256
abbrev pub session_lengths : {E : Type 0} → List E → Lengths
session_lengths filled = record { row = length filled; incoming = 256; outgoing = 256 }

-- the book's outcome of a call, and the line that tells it
abbrev pub Told : {E : Type 0} → Meaning E → List E → Bytes → Call E → List E → List E → List Bytes → Type 0
Told m filled letter call xs ys fs = (a : Answer) × Outcome m filled (session_lengths filled) call xs ys a × (fs ≡ answer_fields letter (code_fields m ys) a)

-- a raise, on a map that is returning and on one that is not
abbrev pub Raised : {E : Type 0} → Meaning E → Bool → List E → ℕ → List E → List E → List Bytes → Type 0
Raised m true filled k xs ys fs = Told m filled (bytes "N") (raise k) xs ys fs
Raised m false filled k xs ys fs = (ys ≡ xs) × (fs ≡ refusal_fields NotReturning)

-- what a raise does to the memory: the bench's call where it is allowed, and else nothing at all
abbrev pub Attempted : {E : Type 0} → Bool → Meaning E → ℕ → Held E → Held E → Answer → Type 0
Attempted true m k h h' a = Does m (raise k) h h' a
Attempted false m k h h' a = (h' ≡ h) × (a ≡ refused NotReturning)

-- what a command makes of the book's list xs, and its line
abbrev pub Says : {E : Type 0} → Meaning E → Bool → List E → Command → List E → List E → List Bytes → Type 0
Says m returning filled (Sweep n) xs ys fs = Told m filled (bytes "S") (sweep (m.elements.element n)) xs ys fs
Says m returning filled TakeBack xs ys fs = Told m filled (bytes "B") take_back xs ys fs
Says m returning filled (Exchange i) xs ys fs = Told m filled (bytes "X") (exchange forth i) xs ys fs
Says m returning filled (ExchangeBack i) xs ys fs = Told m filled (bytes "Y") (exchange back i) xs ys fs
Says m returning filled (Raise k) xs ys fs = Raised m returning filled k xs ys fs
Says m returning filled Print xs ys fs = (ys ≡ xs) × (fs ≡ bytes "row" ∷ code_fields m (made m filled xs).0)

-- what commands print from the book's list xs on
abbrev pub Plays : {E : Type 0} → Meaning E → Bool → List E → List E → List Command → Bytes → Type 0
Plays m returning filled xs [] out = out ≡ []
Plays {E = E} m returning filled xs (c ∷ cs) out =
    (ys : List E) × (fs : List Bytes) × (rest : Bytes)
    × Says m returning filled c xs ys fs × Plays m returning filled ys cs rest × (out ≡ printed fs ++ rest)

abbrev pub seen_from : {E : Type 0} → Side → Meaning E → Meaning E
seen_from Left m = m
seen_from Right m = mirror m

-- what a file prints that is played on a map: the elements of its codes are the filled row
abbrev pub PlaysOn : {E : Type 0} → Meaning E → Bool → File → Bytes → Type 0
PlaysOn m returning f out = Plays m returning (map m.elements.element f.codes) [] f.commands out

-- what a file prints
abbrev pub PlaysNamed : MapName → File → Bytes → Type 0
PlaysNamed Cap f out = PlaysOn (seen_from f.heading.side capacity_map) true f out
PlaysNamed Perm f out = PlaysOn (seen_from f.heading.side perm_map) false f out
PlaysNamed (Aff m a b c d) f out = PlaysOn (seen_from f.heading.side (affine_map m a b c d)) false f out
PlaysNamed (Phase m) f out = PlaysOn (seen_from f.heading.side (phase_map m)) true f out

abbrev pub PlaysFile : File → Bytes → Type 0
PlaysFile f out = PlaysNamed f.heading.map f out

-- what a text prints: the lines of the file that it is the text of, or its first fault
pub data Session (text out : Bytes) : Type 0 where
  played : (f : File) → Keeps f → text ≡ text_of f → PlaysFile f out → Session text out
  faulty : (line : ℕ) (r : Refusal) → Faulty text line r → out ≡ printed (fault_fields line r) → Session text out

-- a text prints one thing only
abbrev pub OneSession : Type 0
OneSession = (text out out' : Bytes) → Session text out → Session text out' → out ≡ out'
