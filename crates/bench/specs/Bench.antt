-- Filling a row; a running bench with the memory that a call is handed, and what its calls answer. Assumes nothing.
use Rattle.std.specs.Prelude.{◌≡◌, ℕ, ◌+◌, ◌<◌, false, T, ◌⊎◌, List, ◌∷◌, ◌++◌, length, Ok, Err, Result, slice_set}
use Rattle.exchange.specs.Meaning.{Meaning}
use Rattle.exchange.specs.declared.refusal.Refusal.{Refusal}
use Rattle.exchange.specs.declared.refusal.Refusal.TheVariants.{NoElement, RowFull, WrongCarrier}
use Rattle.runs.specs.Book.{Answer, Call, Ground, Refuses, code, codes, done, rank, refused}
use Rattle.runs.specs.Calls.{Held, counts, lengths, view}
use Rattle.runs.specs.Sweeps.{at, taken}
use Rattle.runs.specs.Exchanges.{Lacks}
use Rattle.runs.specs.Theorems.{Reaches}
use Rattle.bench.specs.declared.bench.Filling.{Filling}
use Rattle.bench.specs.declared.bench.Running.{Running}
use Rattle.bench.specs.declared.log.Halves.{Halves}

-- there is a next box in the row, and it is none past the thousand and twenty-fourth
abbrev pub Room : {E : Type 0} → Filling → List E → Type 0
Room b row = (b.boxes < 1024) × (b.boxes < length row)

-- one element into the next box, or a refusal: no room first, then a value that does not belong
abbrev pub Put : {E U : Type 0} → Meaning E → E → Filling → List E → Result U Refusal → Filling → List E → Type 0
Put m x b row (Ok u) b' row' = Room b row × T (m.elements.belongs x) × (b'.boxes ≡ b.boxes + 1) × (row' ≡ slice_set row b.boxes x)
Put m x b row (Err r) b' row' =
    ((¬ Room b row × (r ≡ RowFull)) ⊎ (Room b row × (m.elements.belongs x ≡ false) × (r ≡ NoElement)))
    × (b'.boxes ≡ b.boxes) × (row' ≡ row)

-- what a call is handed: the bench, a row, and the halves of its log
abbrev pub held : {E : Type 0} → Running → List E → Halves E → Held E
held b row halves = record { boxes = b.boxes; sweeps = b.sweeps; row = row; incoming = halves.incoming.now; outgoing = halves.outgoing.now }

-- the memory that a call is handed reaches the counts
abbrev pub Enough : {E : Type 0} → Held E → Type 0
Enough h = Reaches (counts h) (lengths h)

-- a call held against the rules of the ranks below k: it breaks none of them, or is refused by the first that it breaks
abbrev pub Judged : {E U : Type 0} → Meaning E → Held E → Call E → ℕ → Result U Refusal → Type 0
Judged m h call k (Ok u) = (s : Refusal) → rank s < k → ¬ Ground m (counts h) (lengths h) (view h) call s
Judged m h call k (Err r) = Refuses m (counts h) (lengths h) (view h) call r

-- both carriers of the entry at a place belong
abbrev pub Entry : {E : Type 0} → Meaning E → Halves E → ℕ → Type 0
Entry m halves i = T (m.elements.belongs (at m halves.incoming.now i)) × T (m.elements.belongs (at m halves.outgoing.now i))

-- the newest carrier of the kind k stands at the place i
pub record Newest {E : Type 0} (m : Meaning E) (k : ℕ) (xs : List E) (i : ℕ) : Type 0 where
  pub front : List E
  pub raised : E
  pub later : List E
  pub parts : xs ≡ front ++ (raised ∷ later)
  pub of_kind : m.elements.kind raised ≡ k
  pub none_later : Lacks m k later
  pub place : length front ≡ i

-- a row and an outgoing carrier taken back, where the carrier recovered has the code of the one that came in; else nothing is changed
abbrev pub Recovered : {E : Type 0} → Meaning E → E → E → List E → Result ℕ Refusal → List E → Type 0
Recovered m went came row (Ok n) row' =
    let t = taken m row went in
    (m.elements.code t.0 ≡ m.elements.code came) × (n ≡ m.elements.code t.0) × (row' ≡ t.1)
Recovered m went came row (Err r) row' = (¬ (m.elements.code (taken m row went).0 ≡ m.elements.code came)) × (r ≡ WrongCarrier) × (row' ≡ row)

-- what a call answers, in the words of the book
abbrev pub code_answer : Result ℕ Refusal → Answer
code_answer (Ok n) = code n
code_answer (Err r) = refused r

abbrev pub codes_answer : Result (ℕ × ℕ) Refusal → Answer
codes_answer (Ok p) = codes p.0 p.1
codes_answer (Err r) = refused r

abbrev pub done_answer : {U : Type 0} → Result U Refusal → Answer
done_answer (Ok u) = done
done_answer (Err r) = refused r
