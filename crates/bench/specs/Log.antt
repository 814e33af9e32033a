-- What the log holds after each of its methods, and after exchanges of its entries. Assumes nothing.
use Rattle.std.specs.Prelude.{◌≡◌, ℕ, ◌+◌, ◌-◌, ◌<◌, ◌≤◌, List, ◌++◌, length, take, drop, Ok, Err, Result, slice_index_or, slice_set}
use Rattle.exchange.specs.declared.refusal.Refusal.{Refusal}
use Rattle.exchange.specs.declared.refusal.Refusal.TheVariants.{LogEmpty, LogFull, NoPlace}
use Rattle.exchange.specs.Meaning.{Exchange, Meaning}
use Rattle.runs.specs.Exchanges.{Turns, climb, exchanged}
use Rattle.bench.specs.declared.log.Halves.{Halves}
use Rattle.bench.specs.declared.log.Log.{Log}

-- the memory of a log, and how many of its entries are in use
pub record Entries (E : Type 0) : Type 0 where
  pub count : ℕ
  pub incoming : List E
  pub outgoing : List E

abbrev pub entries : {E : Type 0} → Log E → Entries E
entries l = record { count = l.count; incoming = l.incoming.now; outgoing = l.outgoing.now }

-- the log still lends the slices that it was lent
abbrev pub Lent : {E : Type 0} → Log E → Log E → Type 0
Lent l l' = (l'.incoming.ghost_name ≡ l.incoming.ghost_name) × (l'.outgoing.ghost_name ≡ l.outgoing.ghost_name)

-- the halves still lend the slices that they were lent
abbrev pub SameHalves : {E : Type 0} → Halves E → Halves E → Type 0
SameHalves h h' = (h'.incoming.ghost_name ≡ h.incoming.ghost_name) × (h'.outgoing.ghost_name ≡ h.outgoing.ghost_name)

-- the place i lies in both halves
abbrev pub Within : {E : Type 0} → Entries E → ℕ → Type 0
Within l i = (i < length l.incoming) × (i < length l.outgoing)

-- the entry (x, y) at the place i, and n entries in use
abbrev pub written : {E : Type 0} → ℕ → Entries E → ℕ → E → E → Entries E
written n l i x y = record { count = n; incoming = slice_set l.incoming i x; outgoing = slice_set l.outgoing i y }

abbrev pub Added : {E U : Type 0} → Entries E → E → E → Result U Refusal → Entries E → Type 0
Added l x y (Ok u) l' = Within l l.count × (l' ≡ written (l.count + 1) l l.count x y)
Added l x y (Err r) l' = (¬ Within l l.count) × (r ≡ LogFull) × (l' ≡ l)

-- there is a newest entry, at the place below the count
abbrev pub Filled : {E : Type 0} → Entries E → Type 0
Filled l = (0 < l.count) × Within l (l.count - 1)

abbrev pub Removed : {E : Type 0} → Entries E → Result (E × E) Refusal → Entries E → Type 0
Removed l (Ok e) l' =
    Filled l
    × (e ≡ (slice_index_or l.incoming (l.count - 1) e.0, slice_index_or l.outgoing (l.count - 1) e.1))
    × (l' ≡ record { count = l.count - 1; incoming = l.incoming; outgoing = l.outgoing })
Removed l (Err r) l' = (¬ Filled l) × (r ≡ LogEmpty) × (l' ≡ l)

abbrev pub Replaced : {E U : Type 0} → Entries E → ℕ → E → E → Result U Refusal → Entries E → Type 0
Replaced l i x y (Ok u) l' = ((i < l.count) × Within l i) × (l' ≡ written l.count l i x y)
Replaced l i x y (Err r) l' = (¬ ((i < l.count) × Within l i)) × (r ≡ NoPlace) × (l' ≡ l)

-- the places i and i + 1 are in use, and all that is in use lies in both halves
abbrev pub Exchangeable : {E : Type 0} → Entries E → ℕ → Type 0
Exchangeable l i = (i + 1 < l.count) × (l.count ≤ length l.incoming) × (l.count ≤ length l.outgoing)

-- whatever a closure answers of a pair is the pair exchanged by f
abbrev pub Answers : {E : Type 0} → Exchange E → (E → E → E × E → Type 0) → Type 0
Answers {E = E} f post = (left right : E) (p : E × E) → post left right p → p ≡ f left right

-- the entries at i and i + 1 exchanged by f in both halves, and the new incoming carriers told
abbrev pub Exchanged : {E : Type 0} → Exchange E → ℕ → Entries E → Result (E × E) Refusal → Entries E → Type 0
Exchanged f i l (Ok p) l' =
    (l' ≡ record { count = l.count; incoming = exchanged f i l.incoming; outgoing = exchanged f i l.outgoing })
    × (p.0 ≡ slice_index_or l'.incoming i p.0) × (p.1 ≡ slice_index_or l'.incoming (i + 1) p.1)
Exchanged f i l (Err r) l' = ⊥

-- the place i is in use, and all that is in use lies in both halves
abbrev pub Counted : {E : Type 0} → Entries E → ℕ → Type 0
Counted l i = (i < l.count) × (l.count ≤ length l.incoming) × (l.count ≤ length l.outgoing)

-- a list turned, below a count, by the exchanges at i, i + 1 and so on up to the last but one
pub record Climbs {E : Type 0} (m : Meaning E) (n i : ℕ) (old new : List E) : Type 0 where
  pub list : List E
  pub turned : Turns m (climb i (n - 1 - i)) (take n old) list
  pub kept : new ≡ list ++ drop n old

abbrev pub Climbed : {E U : Type 0} → Meaning E → ℕ → Entries E → Result U Refusal → Entries E → Type 0
Climbed m i l (Ok u) l' = (l'.count ≡ l.count) × Climbs m l.count i l.incoming l'.incoming × Climbs m l.count i l.outgoing l'.outgoing
Climbed m i l (Err r) l' = ⊥
