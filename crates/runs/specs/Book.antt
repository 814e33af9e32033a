-- The calls of a running bench, the rules by which one is refused, and the plain book of a filled row. Assumes nothing.
use Rattle.std.specs.Prelude.{◌≡◌, ℕ, suc, ◌-◌, ◌<◌, ◌≤◌, false, List, [], ◌∷◌, ◌++◌, length, take}
use Rattle.exchange.specs.Meaning.{Meaning}
use Rattle.exchange.specs.declared.refusal.Refusal.{Refusal}
use Rattle.exchange.specs.declared.refusal.Refusal.TheVariants.{TooLong, BadForm, BadNumber, BadParameters, NoElement, RowFull, LogFull, LogEmpty, NoPlace, NotReturning, ShortMemory, Stray, WrongCarrier}
use Rattle.runs.specs.Sweeps.{Belong, at, made, newest, taken}
use Rattle.runs.specs.Exchanges.{Lacks, Move, Raises, Turns, Way}

pub data Call (E : Type 0) : Type 0 where
  sweep : E → Call E
  take_back : Call E
  exchange : Way → ℕ → Call E
  raise : ℕ → Call E

pub data Answer : Type 0 where
  refused : Refusal → Answer
  code : ℕ → Answer
  codes : ℕ → ℕ → Answer
  done : Answer

-- how many boxes and how many sweeps there are
pub record Counts : Type 0 where
  pub boxes : ℕ
  pub sweeps : ℕ

-- how long the row and the two halves of the log are that a call is handed
pub record Lengths : Type 0 where
  pub row : ℕ
  pub incoming : ℕ
  pub outgoing : ℕ

-- what stands below the counts
pub record View (E : Type 0) : Type 0 where
  pub row : List E
  pub incoming : List E
  pub outgoing : List E

abbrev pub counts_of : {E : Type 0} → View E → Counts
counts_of v = record { boxes = length v.row; sweeps = length v.incoming }

-- the stored values that a call works on
abbrev pub read : {E : Type 0} → Meaning E → Call E → View E → List E
read m (sweep carrier) v = v.row
read m take_back v = newest m v.incoming ∷ newest m v.outgoing ∷ v.row
read m (exchange w i) v = at m v.incoming i ∷ at m v.incoming (suc i) ∷ at m v.outgoing i ∷ at m v.outgoing (suc i) ∷ []
read m (raise k) v = v.incoming ++ v.outgoing

-- the rules of refusal
pub data Ground {E : Type 0} (m : Meaning E) (n : Counts) (l : Lengths) (v : View E) : Call E → Refusal → Type 0 where
  short_row : {call : Call E} → l.row < n.boxes → Ground m n l v call ShortMemory
  uneven_log : {call : Call E} → ¬ (l.incoming ≡ l.outgoing) → Ground m n l v call ShortMemory
  short_log : {call : Call E} → l.incoming < n.sweeps → Ground m n l v call ShortMemory
  log_full : {carrier : E} → n.sweeps ≡ l.incoming → Ground m n l v (sweep carrier) LogFull
  log_empty : n.sweeps ≡ 0 → Ground m n l v take_back LogEmpty
  no_next_place : {w : Way} {i : ℕ} → n.sweeps ≤ suc i → Ground m n l v (exchange w i) NoPlace
  no_such_kind : {k : ℕ} → Lacks m k v.incoming → Ground m n l v (raise k) NoPlace
  stray : {call : Call E} → ¬ Belong m (read m call v) → Ground m n l v call Stray
  no_element : {carrier : E} → m.elements.belongs carrier ≡ false → Ground m n l v (sweep carrier) NoElement
  wrong_carrier : ¬ (m.elements.code (taken m v.row (newest m v.outgoing)).0 ≡ m.elements.code (newest m v.incoming)) → Ground m n l v take_back WrongCarrier

-- the order in which the rules are looked at; a raise on a map that is not returning is refused before any, and the last five are no refusals of a running bench
abbrev pub rank : Refusal → ℕ
rank NotReturning = 0
rank ShortMemory = 1
rank LogFull = 2
rank LogEmpty = 2
rank NoPlace = 2
rank Stray = 3
rank NoElement = 4
rank WrongCarrier = 5
rank TooLong = 6
rank BadForm = 6
rank BadNumber = 6
rank BadParameters = 6
rank RowFull = 6

-- a call is refused by the first rule that it breaks
abbrev pub Refuses : {E : Type 0} → Meaning E → Counts → Lengths → View E → Call E → Refusal → Type 0
Refuses m n l v call r = Ground m n l v call r × ((s : Refusal) → rank s < rank r → ¬ Ground m n l v call s)

abbrev pub Grants : {E : Type 0} → Meaning E → Counts → Lengths → View E → Call E → Type 0
Grants m n l v call = (r : Refusal) → ¬ Ground m n l v call r

-- all that the book of a filled row says, worked out from its list of incoming carriers
abbrev pub book : {E : Type 0} → Meaning E → List E → List E → View E
book m filled xs = record { row = (made m filled xs).0; incoming = xs; outgoing = (made m filled xs).1 }

-- what a granted call makes of the book's list, and its answer
abbrev pub Booked : {E : Type 0} → Meaning E → List E → Call E → List E → List E → Answer → Type 0
Booked m filled (sweep carrier) xs ys a = (ys ≡ xs ++ (carrier ∷ [])) × (a ≡ code (m.elements.code (newest m (made m filled ys).1)))
Booked m filled take_back xs ys a = (ys ≡ take (length xs - 1) xs) × (a ≡ code (m.elements.code (newest m xs)))
Booked m filled (exchange w i) xs ys a = Turns m ((w, i) ∷ []) xs ys × (a ≡ codes (m.elements.code (at m ys i)) (m.elements.code (at m ys (suc i))))
Booked m filled (raise k) xs ys a = ((moves : List Move) × Raises m k xs moves × Turns m moves xs ys) × (a ≡ done)

-- what a call makes of the book's list xs: the list ys and an answer
pub data Outcome {E : Type 0} (m : Meaning E) (filled : List E) (l : Lengths) (call : Call E) (xs ys : List E) (a : Answer) : Type 0 where
  turned_away : {r : Refusal} → Refuses m (counts_of (book m filled xs)) l (book m filled xs) call r → ys ≡ xs → a ≡ refused r → Outcome m filled l call xs ys a
  granted : Grants m (counts_of (book m filled xs)) l (book m filled xs) call → Booked m filled call xs ys a → Outcome m filled l call xs ys a
