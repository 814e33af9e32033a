-- What each call does to the memory that a running bench is handed. Assumes nothing.
use Rattle.std.specs.Prelude.{◌≡◌, ℕ, suc, ◌-◌, List, ◌++◌, length, take, drop, slice_set}
use Rattle.exchange.specs.Meaning.{Meaning}
use Rattle.exchange.specs.declared.refusal.Refusal.{Refusal}
use Rattle.runs.specs.Sweeps.{at, newest, swept, taken}
use Rattle.runs.specs.Exchanges.{Move, Raises, Turns, by, exchanged}
use Rattle.runs.specs.Book.{Answer, Call, Counts, Grants, Lengths, Refuses, View, code, codes, done, exchange, raise, refused, sweep, take_back}

-- a running bench's counts, and the row and the two halves of the log that a call is handed
pub record Held (E : Type 0) : Type 0 where
  pub boxes : ℕ
  pub sweeps : ℕ
  pub row : List E
  pub incoming : List E
  pub outgoing : List E

abbrev pub counts : {E : Type 0} → Held E → Counts
counts h = record { boxes = h.boxes; sweeps = h.sweeps }

abbrev pub lengths : {E : Type 0} → Held E → Lengths
lengths h = record { row = length h.row; incoming = length h.incoming; outgoing = length h.outgoing }

abbrev pub view : {E : Type 0} → Held E → View E
view h = record { row = take h.boxes h.row; incoming = take h.sweeps h.incoming; outgoing = take h.sweeps h.outgoing }

-- the count of sweeps and the memory after a call; the count of boxes stays
pub record Leaves {E : Type 0} (h h' : Held E) (sweeps : ℕ) (row incoming outgoing : List E) : Type 0 where
  pub boxes_kept : h'.boxes ≡ h.boxes
  pub sweeps_left : h'.sweeps ≡ sweeps
  pub row_left : h'.row ≡ row
  pub incoming_left : h'.incoming ≡ incoming
  pub outgoing_left : h'.outgoing ≡ outgoing

-- a list in place of what stands below a count, the rest kept
abbrev pub refilled : {E : Type 0} → ℕ → List E → List E → List E
refilled n new old = new ++ drop n old

-- raise: the same moves turn both halves of the log
pub record Lifts {E : Type 0} (m : Meaning E) (k : ℕ) (h h' : Held E) : Type 0 where
  pub moves : List Move
  pub raises : Raises m k (view h).incoming moves
  pub incoming' : List E
  pub outgoing' : List E
  pub incoming_turned : Turns m moves (view h).incoming incoming'
  pub outgoing_turned : Turns m moves (view h).outgoing outgoing'
  pub leaves : Leaves h h' h.sweeps h.row (refilled h.sweeps incoming' h.incoming) (refilled h.sweeps outgoing' h.outgoing)

-- what a granted call does, and its answer
abbrev pub Done : {E : Type 0} → Meaning E → Call E → Held E → Held E → Answer → Type 0
Done m (sweep carrier) h h' a =
    let s = swept m carrier (view h).row in
    Leaves h h' (suc h.sweeps) (refilled h.boxes s.0 h.row) (slice_set h.incoming h.sweeps carrier) (slice_set h.outgoing h.sweeps s.1)
    × (a ≡ code (m.elements.code s.1))
Done m take_back h h' a =
    let t = taken m (view h).row (newest m (view h).outgoing) in
    Leaves h h' (h.sweeps - 1) (refilled h.boxes t.1 h.row) h.incoming h.outgoing
    × (a ≡ code (m.elements.code t.0))
Done m (exchange w i) h h' a =
    let xs = exchanged (by m w) i (view h).incoming in
    let ys = exchanged (by m w) i (view h).outgoing in
    Leaves h h' h.sweeps h.row (refilled h.sweeps xs h.incoming) (refilled h.sweeps ys h.outgoing)
    × (a ≡ codes (m.elements.code (at m xs i)) (m.elements.code (at m xs (suc i))))
Done m (raise k) h h' a = Lifts m k h h' × (a ≡ done)

-- what a call does to what it is handed, and its answer: nothing where it is refused
pub data Does {E : Type 0} (m : Meaning E) (call : Call E) (h h' : Held E) (a : Answer) : Type 0 where
  turned_away : {r : Refusal} → Refuses m (counts h) (lengths h) (view h) call r → Leaves h h' h.sweeps h.row h.incoming h.outgoing → a ≡ refused r → Does m call h h' a
  granted : Grants m (counts h) (lengths h) (view h) call → Done m call h h' a → Does m call h h' a
