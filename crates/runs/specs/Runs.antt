-- Runs of a bench, the same calls in the plain book, and what is promised of every run. Assumes nothing.
use Rattle.std.specs.Prelude.{◌≡◌, ℕ, ◌↔◌, List, [], ◌∷◌, ◌++◌, map, length, take, drop}
use Rattle.exchange.specs.Meaning.{Meaning}
use Rattle.exchange.specs.Laws.{Returning}
use Rattle.runs.specs.Sweeps.{made}
use Rattle.runs.specs.Exchanges.{Move, Turns}
use Rattle.runs.specs.Book.{Answer, Call, Lengths, Outcome, View}
use Rattle.runs.specs.Calls.{Does, Held, lengths}

-- a call, the lengths of the memory that it was handed, and its answer
abbrev pub Said : Type 0 → Type 0
Said E = Call E × Lengths × Answer

-- the memory holds what is there below a count, as far as it reaches; past the count it holds anything
abbrev pub Shows : {E : Type 0} → ℕ → List E → List E → Type 0
Shows n memory xs = take n memory ≡ take (length memory) xs

-- a call is handed the counts of what is there, and memory that shows it
pub record Handed {E : Type 0} (v : View E) (h : Held E) : Type 0 where
  pub boxes_count : h.boxes ≡ length v.row
  pub sweeps_count : h.sweeps ≡ length v.incoming
  pub row_shown : Shows h.boxes h.row v.row
  pub incoming_shown : Shows h.sweeps h.incoming v.incoming
  pub outgoing_shown : Shows h.sweeps h.outgoing v.outgoing

-- what is there after a call: what it left below the new counts, and what lies beyond the memory that it was handed
abbrev pub after : {E : Type 0} → View E → Held E → View E
after v h' = record {
  row = take h'.boxes h'.row ++ drop (length h'.row) v.row;
  incoming = take h'.sweeps h'.incoming ++ drop (length h'.incoming) v.incoming;
  outgoing = take h'.sweeps h'.outgoing ++ drop (length h'.outgoing) v.outgoing;
}

-- a run from a filled row: its calls, the newest first, and what is there after them
pub data Run {E : Type 0} (m : Meaning E) (filled : List E) : List (Said E) → View E → Type 0 where
  start : Run m filled [] (record { row = filled; incoming = []; outgoing = [] })
  next : {calls : List (Said E)} {v : View E} {call : Call E} {h h' : Held E} {a : Answer} → Run m filled calls v → Handed v h → Does m call h h' a → Run m filled ((call, lengths h, a) ∷ calls) (after v h')

-- the same calls and answers in the plain book, and its list after them
pub data BookRun {E : Type 0} (m : Meaning E) (filled : List E) : List (Said E) → List E → Type 0 where
  start : BookRun m filled [] []
  next : {calls : List (Said E)} {xs ys : List E} {call : Call E} {l : Lengths} {a : Answer} → BookRun m filled calls xs → Outcome m filled l call xs ys a → BookRun m filled ((call, l, a) ∷ calls) ys

-- what is promised of every run, and of every two runs, from a filled row
pub record Promise {E : Type 0} (m : Meaning E) (filled : List E) : Type 0 where
  -- a run answers as the plain book does, keeps the book's list as its incoming carriers, and has what that list makes of the filled row
  pub by_the_book : (calls : List (Said E)) (v : View E) → Run m filled calls v → BookRun m filled calls v.incoming × ((v.row, v.outgoing) ≡ made m filled v.incoming)
  -- moves that turn the incoming carriers of one run into those of another leave the row and turn the outgoing ones alike
  pub reordering : (c d : List (Said E)) (v w : View E) → Run m filled c v → Run m filled d w → (moves : List Move) → Turns m moves v.incoming w.incoming → (v.row ≡ w.row) × Turns m moves v.outgoing w.outgoing
  -- of a returning map: two logs are the same exactly when moves turn one into the other and the incoming kinds agree at every place
  pub kinds_tell : Returning m → (c d : List (Said E)) (v w : View E) → Run m filled c v → Run m filled d w → ((v.incoming ≡ w.incoming) × (v.outgoing ≡ w.outgoing)) ↔ (((moves : List Move) × Turns m moves v.incoming w.incoming) × (map m.elements.kind v.incoming ≡ map m.elements.kind w.incoming))

-- the promise, from whatever row a bench was filled with
abbrev pub Promises : {E : Type 0} → Meaning E → Type 0
Promises {E = E} m = (filled : List E) → Promise m filled
